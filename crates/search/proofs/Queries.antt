-- A sheet by the rows that it bars, and the query's answer.
use mathlib.Core.Path.{◌≡◌, refl, sym, subst, ◌∙◌}
use mathlib.Core.Bool.{true, ◌&&◌, not-not}
use mathlib.Core.List.{List, [], ◌∷◌}
use mathlib.Core.Option.{Option}
use Prim.Native.Nat.{ℕ, ◌≤◌}
use native.Mathlib.Omega.{arith}
use lib.Dec.{leb}
use lib.IntN.{ℤ}
use lib.ListN.{length, drop, take}
use lib.Seq.{take_at}
use borrow.Author.Tests.{leb-true}
use Rattle.rules.specs.declared.Row.{Row}
use Rattle.rules.specs.Words.{max_inputs, is_inputs, is_order, is_row, fits, holds, dashes}
use Rattle.rules.specs.Sheets.{max_numbers, max_clauses, clauses, ends_closed, in_reach, well_formed, satisfies, every_clause}
use Rattle.rules.specs.Search.{smallest, not_below}
use Rattle.rules.specs.Answers.{over}
use Rattle.rules.specs.Calls.{words_of, are_rows}
use Rattle.std.proofs.lemmas.Bool.{and_parts, and_from}
use Rattle.rules.proofs.Orders.{is-order}
use Rattle.rules.proofs.Reach.{same}
use Rattle.sheets.specs.Numbers.{numbers_of}
use Rattle.sheets.specs.Barred.{barred}
use Rattle.sheets.proofs.Bars.{barred-is, barred-length, barred-rows}
use Rattle.search.specs.Question.{good, cares_within, Asked}

-- a number of inputs is at most 24
pub few-inputs : (n : ℕ) → is_inputs n ≡ true → n ≤ max_inputs
few-inputs n h = leb-true n max_inputs (and_parts (leb 1 n) (leb n max_inputs) h).1

-- rows of n inputs care for no more
pub rows-within : (n : ℕ) (rows : List Row) → are_rows n rows ≡ true → cares_within n rows ≡ true
unfolding are_rows cares_within
rows-within n [] h = refl
rows-within n (r ∷ rows) h =
    let p = and_parts (is_row n r) (are_rows n rows) h in
    and_from _ _ (and_parts (fits n r.care) (holds r r.value) p.0).0 (rows-within n rows p.1)

-- a well-formed sheet's clauses and numbers
module _ (n : ℕ) (sheet : List ℤ) (h : well_formed n sheet ≡ true) where
  parts : (leb (clauses sheet) max_clauses ≡ true) × (in_reach n sheet ≡ true)
  unfolding well_formed
  parts =
      let p = and_parts (leb (length sheet) max_numbers) (leb (clauses sheet) max_clauses && (ends_closed true sheet && in_reach n sheet)) h in
      let q = and_parts (leb (clauses sheet) max_clauses) (ends_closed true sheet && in_reach n sheet) p.1 in
      (q.0, (and_parts (ends_closed true sheet) (in_reach n sheet) q.1).1)

  pub few-clauses : clauses sheet ≤ max_clauses
  few-clauses = leb-true (clauses sheet) max_clauses parts.0

  pub few-barred : length (barred sheet) ≤ max_clauses
  few-barred = let l = barred-length sheet in let k = few-clauses in omega arith

  -- the rows that it bars, over the first rows of a run
  module _ (old run : List Row) (count : ℕ) (run_is : run ≡ over (barred sheet) old) (count-is : count ≡ length (barred sheet)) where
    kept-barred : take count run ≡ barred sheet
    kept-barred = rw (run_is, count-is) (take_at (barred sheet) (drop (length (barred sheet)) old) (length (barred sheet)) refl)

    -- are what a search may be asked to keep out of
    pub asked : (order : List ℕ) → n ≤ max_inputs → is_order n order ≡ true → Asked order (numbers_of []) (numbers_of []) (take count run)
    unfolding in_reach words_of
    asked order l o =
        let e = (is-order n order o).size in
        record {
          ordered = subst (λ (m : ℕ). is_order m order ≡ true) (sym e) o;
          size = omega arith;
          reach-a = refl;
          reach-b = refl;
          cares = rw (kept-barred, e) (rows-within n (barred sheet) (barred-rows n sheet parts.1));
        }

    good-satisfies : (s : ℕ) → good (numbers_of []) (numbers_of []) (take count run) s ≡ satisfies sheet s
    unfolding good satisfies every_clause words_of
    good-satisfies s = rw (kept-barred, barred-is sheet s) (not-not (satisfies sheet s))

    pub outside-barred : (order : List ℕ) (start : ℕ) (o : Option ℕ)
        → o ≡ smallest (not_below order start (good (numbers_of []) (numbers_of []) (take count run))) order dashes
        → o ≡ smallest (not_below order start (satisfies sheet)) order dashes
    outside-barred order start o e = e ∙ same _ _ order dashes (λ t s. rw (good-satisfies t))
