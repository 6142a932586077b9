-- The numbers of a body, and what is counted of them.
use Rattle.std.specs.Prelude.{◌≡◌, true, List, [], ◌∷◌, ℕ, ◌+◌, ◌<◌, ◌≤◌, ℤ, length, Option, Some, None, Result, Ok, Err}
use Rattle.std.proofs.Math.Option as math
use Rattle.rules.specs.declared.Refusal.{Refusal}
use Rattle.rules.specs.declared.Refusal.TheVariants as refusal
use Rattle.rules.specs.Words.{one}
use Rattle.rules.specs.Sheets.{closes, clauses, ends_closed}
use Rattle.rules.specs.Dimacs.{◌>>=◌, tokens, numbers}
use Rattle.dimacs.specs.declared.body.Body.{Body}
use Rattle.dimacs.specs.declared.body.Tally.{Tally}

-- the numbers of a body; nothing where a token is not in form
unfoldable pub numbers_in : ℕ → List ℕ → math.Option (List ℤ)
numbers_in v text = numbers v (tokens text)

abbrev pub numbers_of : Body → math.Option (List ℤ)
numbers_of b = numbers_in b.inputs.count b.text.now

-- one number before the others
unfoldable pub prepend : ℤ → math.Option (List ℤ) → math.Option (List ℤ)
prepend z later = later >>= λ zs. math.some (z ∷ zs)

-- what the next number says of them, and of those that are left then
abbrev pub Follows : Body → Body → Result (Option ℤ) Refusal → Type 0
Follows b later (Ok (Some z)) = (numbers_of b ≡ prepend z (numbers_of later)) × (length later.text.now < length b.text.now)
Follows b later (Ok None) = numbers_of b ≡ math.some []
Follows b later (Err f) = (numbers_of b ≡ math.none) × (f ≡ refusal.Token)

-- of no numbers; with one more; with all of these
abbrev pub nothing : Tally
nothing = record { numbers = 0; zeros = 0; closed = true }

unfoldable pub counted : ℤ → Tally → Tally
counted z t = record { numbers = t.numbers + 1; zeros = t.zeros + one (closes z); closed = closes z }

unfoldable pub counted_all : Tally → List ℤ → Tally
counted_all t zs = record { numbers = t.numbers + length zs; zeros = t.zeros + clauses zs; closed = ends_closed t.closed zs }

unfoldable pub judged : Tally → math.Option (List ℤ) → math.Option Tally
judged t later = later >>= λ zs. math.some (counted_all t zs)

abbrev pub body_is : Result Tally Refusal → math.Option Tally
body_is (Ok t) = math.some t
body_is (Err f) = math.none

-- the numbers of a body in form; and that they fit into so many cells
abbrev pub sheet_of : math.Option (List ℤ) → List ℤ
sheet_of body = math.get_or body []

pub record HasRoom (body : math.Option (List ℤ)) (room : ℕ) : Type 0 where
  pub form : body ≡ math.some (sheet_of body)
  pub fits : length (sheet_of body) ≤ room
