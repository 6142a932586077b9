-- What is left of a text.
use Rattle.std.specs.Prelude.{◌≡◌, Bool, List, ℕ, Option, Some, None}
use Rattle.std.specs.Borrow.{Bor}
use Rattle.std.proofs.Math.Option as math

-- a test on bytes, by what it answers, tells this kind
abbrev pub Tells : (ℕ → Bool → Type 0) → (ℕ → Bool) → Type 0
Tells answers kind = (b : ℕ) (r : Bool) → answers b r → r ≡ kind b

abbrev pub rest_of : Option (Bor (List ℕ)) → math.Option (List ℕ)
rest_of (Some t) = math.some t.now
rest_of None = math.none
