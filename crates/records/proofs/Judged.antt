-- Pruning of a given list where every setting counts: what is asked, and which rows are blanked.
use mathlib.Core.Path.{◌≡◌, refl}
use mathlib.Core.Bool.{Bool, true, false, not}
use mathlib.Core.List.{List, [], ◌∷◌, map, append-nil}
use Prim.Native.Nat.{ℕ, ◌≤◌}
use native.Mathlib.Omega.{arith}
use lib.ListN.{length, drop_of_length-le}
use lib.Seq.{take-length, length-take-le}
use Rattle.rules.specs.declared.Row.{Row}
use Rattle.rules.specs.Words.{is_row, fits, max_inputs, natural}
use Rattle.rules.specs.Sheets.{in_reach}
use Rattle.rules.specs.Method.{marks, all}
use Rattle.rules.specs.Calls.{are_rows}
use Rattle.std.proofs.lemmas.Bool.{and_parts, and_from}
use Rattle.rules.proofs.Counted.{natural-length}
use Rattle.rules.proofs.Orders.{natural-order}
use Rattle.search.specs.Question.{cares_within, Asked}
use Rattle.method.specs.Blank.{is_blank, blanked}
use Rattle.method.proofs.Blanks.{row-solid, blanked-length}
use Rattle.method.proofs.Standing.{all-count, marks-length}

-- rows of n inputs care for no other variable
rows-care : (n : ℕ) (rows : List Row) → are_rows n rows ≡ true → cares_within n rows ≡ true
unfolding are_rows cares_within
rows-care n [] h = refl
rows-care n (r ∷ rows) h =
    let b = and_parts (is_row n r) (are_rows n rows) h in
    and_from _ _ (and_parts (fits n r.care) _ b.0).0 (rows-care n rows b.1)

pub asked-all : (n : ℕ) (rows : List Row) → n ≤ max_inputs → are_rows n rows ≡ true → Asked (natural n) [] [] rows
unfolding in_reach
asked-all n rows l h =
    record {
      ordered = rw natural-length (natural-order n);
      size = rw natural-length l;
      reach-a = refl;
      reach-b = refl;
      cares = rw natural-length (rows-care n rows h);
    }

-- of rows of n inputs those are blanks that go
blanks-gone : (n : ℕ) (stays : List Bool) (rows : List Row) → length stays ≡ length rows → are_rows n rows ≡ true
    → map is_blank (blanked stays rows) ≡ map not stays
unfolding blanked are_rows
blanks-gone n [] [] e h = refl
blanks-gone n [] (r ∷ rows) e h = absurd (omega arith)
blanks-gone n (b ∷ stays) [] e h = absurd (omega arith)
blanks-gone n (true ∷ stays) (r ∷ rows) e h =
    let w = and_parts (is_row n r) (are_rows n rows) h in
    rw (row-solid n r w.0, blanks-gone n stays rows (omega arith) w.1)
blanks-gone n (false ∷ stays) (r ∷ rows) e h =
    let w = and_parts (is_row n r) (are_rows n rows) h in
    rw (blanks-gone n stays rows (omega arith) w.1)

pub pruned-blanks : (n : ℕ) (rows : List Row) → are_rows n rows ≡ true
    → map is_blank (blanked (marks all (natural n) rows) rows) ≡ map not (marks all (natural n) rows)
pruned-blanks n rows h = blanks-gone n (marks all (natural n) rows) rows (marks-length all (natural n) [] rows) h

-- with no row in front and no sheet every row is judged by every setting
pub ruleset whole = (all-count, blanked-length, length-take-le, take-length, drop_of_length-le, append-nil)
