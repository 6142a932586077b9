-- The number of inputs is 1 to 24, and no other.
use mathlib.Core.Path.{◌≡◌}
use mathlib.Core.Bool.{true, false, and-false}
use Prim.Native.Nat.{ℕ, ◌≤◌, ◌<◌}
use lib.Dec.{leb}
use borrow.Author.Tests.{le-leb, lt-leb}
use Rattle.rules.specs.Words.{max_inputs, is_inputs}
use Rattle.std.proofs.lemmas.Bool.{and_from}

pub inputs-between : (n : ℕ) → 1 ≤ n → n ≤ max_inputs → is_inputs n ≡ true
inputs-between n a b = and_from _ _ (le-leb 1 n a) (le-leb n max_inputs b)

pub inputs-none : (n : ℕ) → n < 1 → is_inputs n ≡ false
inputs-none n a = rw (lt-leb 1 n a)

pub inputs-many : (n : ℕ) → max_inputs < n → is_inputs n ≡ false
inputs-many n a = rw (lt-leb n max_inputs a) (and-false (leb 1 n))
