-- A given list is not in form if its count is past a run or above 256; and the count of one that is.
use Rattle.std.proofs.Common.{◌≡◌, ℕ, ◌≤◌, ◌<◌, true, false, List, length, arith}
use Rattle.std.proofs.lemmas.Bool.Decides.{nat_tests}
use Rattle.rules.specs.declared.Row.{Row}
use Rattle.rules.specs.Method.{max_rows}
use Rattle.rules.specs.Calls.{rows_in}
use Rattle.given.specs.Given.{in_form}
use Rattle.given.proofs.Runs.{runs}

module _ (n count : ℕ) (cs vs : List ℕ) where
  pub past-care : length cs < count → false ≡ in_form n count (rows_in cs vs)
  past-care l = grind (arith, runs)

  pub past_value : length vs < count → false ≡ in_form n count (rows_in cs vs)
  past_value l = grind (arith, runs)

  pub too_many : max_rows < count → false ≡ in_form n count (rows_in cs vs)
  too_many l = grind (arith, runs)

-- the count of a list in form is within its rows, and at most 256
pub form-count : (n count : ℕ) (rows : List Row) → in_form n count rows ≡ true → (count ≤ length rows) × (count ≤ max_rows)
form-count n count rows h = (grind (arith, nat_tests), grind (arith, nat_tests))
