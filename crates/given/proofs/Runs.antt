-- The rows of two runs of words: how many, the first of them, and when they are in form; and what a chain over them gives.
use Rattle.std.proofs.Common.{◌≡◌, refl, ap, ℕ, zero, suc, ◌&&◌, List, [], ◌∷◌, length, take, leb, min, arith}
use Rattle.std.proofs.lemmas.Bool.Decides.{nat_tests}
use Rattle.std.proofs.lemmas.Iterator.{YieldsList}
use Rattle.std.proofs.lemmas.Iterator.Consumers.{YieldsList-from_first}
use Rattle.std.specs.Iterator.{YieldsFirst}
use Rattle.std.specs.List.{list_all}
use Rattle.rules.specs.declared.Row.{Row}
use Rattle.rules.specs.Words.{is_row}
use Rattle.rules.specs.Method.{max_rows}
use Rattle.rules.specs.Calls.{rows_in, are_rows}
use Rattle.rules.proofs.GivenRows.{rows_in-length}
use Rattle.given.specs.declared.rows.Rows.{Rows}
use Rattle.given.specs.Given.{in_form, rows_left}

-- where a run is empty there is no row
pub no_care : (cs vs : List ℕ) → length cs ≡ 0 → rows_in cs vs ≡ []
unfolding rows_in
no_care [] vs e = refl
no_care (c ∷ cs) vs e = cc

pub no_value : (cs vs : List ℕ) → length vs ≡ 0 → rows_in cs vs ≡ []
unfolding rows_in
no_value [] vs e = refl
no_value (c ∷ cs) [] e = refl
no_value (c ∷ cs) (v ∷ vs) e = cc

-- the runs cut to their first k words hold the first k rows
pub rows_in-cut : (cs vs : List ℕ) (k : ℕ) → rows_in (take k cs) (take k vs) ≡ take k (rows_in cs vs)
unfolding rows_in
rows_in-cut cs vs zero = refl
rows_in-cut [] vs (suc k) = refl
rows_in-cut (c ∷ cs) [] (suc k) = refl
rows_in-cut (c ∷ cs) (v ∷ vs) (suc k) = ap (λ l. record { care = c; value = v } ∷ l) (rows_in-cut cs vs k)

within_both : (k a b : ℕ) → leb k (min a b) ≡ (leb k a && leb k b)
within_both k a b = grind (arith, nat_tests)

-- a list is in form if its count is within both runs and at most 256, and the runs cut there hold rows of n inputs
pub in_form-cut : (n count : ℕ) (cs vs : List ℕ) → in_form n count (rows_in cs vs)
    ≡ (((leb count (length cs) && leb count (length vs)) && leb count max_rows) && are_rows n (rows_in (take count cs) (take count vs)))
in_form-cut n count cs vs = rw (rows_in-cut, rows_in-length, within_both)

-- what a function over the two runs needs
pub ruleset runs = (rows_in-length, rows_in-cut, in_form-cut, no_care, no_value, nat_tests)

-- all are rows exactly if the test of each is passed
pub are_rows-all : (n : ℕ) (rows : List Row) → are_rows n rows ≡ list_all (λ r. is_row n r) rows
unfolding are_rows
are_rows-all n [] = refl
are_rows-all n (r ∷ rows) = rw (are_rows-all n rows)

-- the calls of `next` give the rows that are left, in turn
pub listed : (rows : Rows) → YieldsList (YieldsFirst rows_left) (λ r. r) rows (rows_left rows)
listed rows = YieldsList-from_first (λ r. r) rows_left (rows_left rows) refl
