-- Generation in a run of rows: the on sheet's barred rows stand first, and behind them the rows generated so far.
use mathlib.Core.Path.{◌≡◌, refl, sym, ap, ◌∙◌, subst}
use mathlib.Core.Bool.{Bool, true, not}
use mathlib.Core.List.{List, [], ◌∷◌, ◌++◌, append_assoc, append-nil}
use mathlib.Core.Option.{Option, none, some}
use Prim.Native.Nat.{ℕ, ◌+◌, ◌-◌, ◌^◌, ◌≤◌, ◌<◌}
use native.Mathlib.Numerals.{add-one}
use native.Mathlib.Omega.{arith}
use lib.IntN.{ℤ}
use lib.ListN.{length, take, drop, set, length-append, take-append-drop}
use lib.Seq.{length-take-le, take_at}
use Rattle.rules.specs.declared.Row.{Row}
use Rattle.rules.specs.Words.{fits, is_row, holds, dashes}
use Rattle.rules.specs.Search.{smallest, not_below, found}
use Rattle.rules.specs.Method.{next, widen, generated, complete}
use Rattle.rules.specs.Answers.{over}
use Rattle.std.proofs.lemmas.Bool.{and_parts, and_from}
use Rattle.rules.proofs.Rows.{dashes-row}
use Rattle.rules.proofs.Orders.{IsOrder, is-order}
use Rattle.rules.proofs.Smallest.{smallest-below}
use Rattle.rules.proofs.Generation.{All, step-some, stopped, generated-rows}
use Rattle.sheets.proofs.Over.{over-more}
use Rattle.search.specs.Question.{good, cares_within, Asked}
use Rattle.method.proofs.Next.{Resumes, resumes-first, resumes-next, next-found}

-- Rows of n inputs care for no other variable.
rows-care : (n : ℕ) (rows : List Row) → All (λ r. is_row n r ≡ true) rows → cares_within n rows ≡ true
unfolding cares_within
rows-care n [] w = refl
rows-care n (r ∷ rows) w = and_from _ _ (and_parts (fits n r.care) (holds r r.value) w.0).0 (rows-care n rows w.1)

cares-append : (n : ℕ) (xs ys : List Row) → cares_within n xs ≡ true → cares_within n ys ≡ true → cares_within n (xs ++ ys) ≡ true
unfolding cares_within
cares-append n [] ys a b = b
cares-append n (x ∷ xs) ys a b =
    let p = and_parts (fits n x.care) (cares_within n xs) a in
    and_from _ _ p.0 (cares-append n xs ys p.1 b)

-- `barred`: the first `ons` rows of the run.
module _ (order : List ℕ) (sheet : List ℤ) (off : ℕ → Bool) (barred : List Row) (ons k : ℕ) (old : List Row) where
  abbrev on : ℕ → Bool
  on = good sheet [] barred

  abbrev rows_at : ℕ → List Row
  rows_at count = generated order on off count

  -- After `count` rows, the last of them from the setting `last`.
  pub record Generating (count last : ℕ) (kept : List Row) : Type 0 where
    pub stands : kept ≡ over (barred ++ rows_at count) old
    pub whole : length (rows_at count) ≡ count
    pub resumes : Resumes order on last (rows_at count)

  -- After k rows, or fewer where there are no more.
  abbrev pub Ended : ℕ → Bool → List Row → Type 0
  Ended count whole kept = record {
    kept_after : kept ≡ over (barred ++ rows_at k) old;
    count_value : count ≡ length (rows_at k);
    complete_value : whole ≡ complete order on (rows_at k);
  }

  module _ (q : Asked order sheet [] barred) (first : barred ≡ take ons old) (room : ons + k ≤ length old) where
    is_ordered : IsOrder (length order) order
    is_ordered = is-order (length order) order q.ordered

    barred-length : length barred ≡ ons
    barred-length = ap length first ∙ length-take-le ons old (omega arith)

    pub begin : Generating 0 0 old
    unfolding generated
    begin = record {
      stands = sym (take-append-drop ons old)
          ∙ ap (λ (rows : List Row). rows ++ drop ons old) (sym first)
          ∙ ap (λ (m : ℕ). barred ++ drop m old) (sym barred-length)
          ∙ ap (λ (rows : List Row). over rows old) (sym (append-nil barred));
      whole = refl;
      resumes = resumes-first (length order) order is_ordered on;
    }

    module _ (count last : ℕ) (kept : List Row) (g : Generating count last kept) where
      rows-length : length (barred ++ rows_at count) ≡ ons + count
      rows-length = length-append barred (rows_at count) ∙ omega (arith, barred-length, g.whole)

      -- What is searched: the barred rows and those generated so far.
      kept-rows : take (ons + count) kept ≡ barred ++ rows_at count
      kept-rows = ap (take (ons + count)) g.stands ∙ take_at (barred ++ rows_at count) _ (ons + count) rows-length

      pub still-asked : Asked order sheet [] (take (ons + count) kept)
      still-asked = record {
        ordered = q.ordered;
        size = q.size;
        reach-a = q.reach-a;
        reach-b = q.reach-b;
        cares = ap (cares_within (length order)) kept-rows
            ∙ cares-append (length order) barred (rows_at count) q.cares
            (rows-care (length order) (rows_at count) (generated-rows (length order) order is_ordered on off count));
      }

      -- What is found there is the next setting.
      abbrev sought : Option ℕ
      sought = smallest (not_below order last (good sheet [] (take (ons + count) kept))) order dashes

      answers : next order on (rows_at count) ≡ sought
      answers =
          sym (next-found (length order) order is_ordered sheet barred last (rows_at count) g.resumes)
          ∙ ap (λ (rows : List Row). smallest (not_below order last (good sheet [] rows)) order dashes) (sym kept-rows)

      -- A setting: its widened row is kept, and the next is sought from it on.
      pub one_more : (s : ℕ) → some s ≡ sought → count < k → (r : Row) → r ≡ widen order off s → Generating (count + 1) s (set kept (ons + count) r)
      one_more s e l r w =
          let n = answers ∙ sym e in
          let step : rows_at (count + 1) ≡ rows_at count ++ (r ∷ []) =
          ap rows_at (add-one count) ∙ step-some order on off count s n ∙ ap (λ (x : Row). rows_at count ++ (x ∷ [])) (sym w) in
          record {
            stands = ap (λ (rows : List Row). set rows (ons + count) r) g.stands
                ∙ over-more (barred ++ rows_at count) old r (ons + count) (sym rows-length) (omega arith)
                ∙ ap (λ (rows : List Row). over rows old) (append_assoc barred (rows_at count) (r ∷ []) ∙ ap (λ (rows : List Row). barred ++ rows) (sym step));
            whole = ap length step ∙ length-append (rows_at count) (r ∷ []) ∙ ap (λ (m : ℕ). m + 1) g.whole;
            resumes = subst (Resumes order on s) (sym step) (resumes-next (length order) order is_ordered on (rows_at count) r s n);
          }

      ended : rows_at count ≡ rows_at k → (whole : Bool) → whole ≡ not (found sought) → Ended count whole kept
      ended same whole w = record {
        kept_after = g.stands ∙ ap (λ (rows : List Row). over (barred ++ rows) old) same;
        count_value = sym g.whole ∙ ap length same;
        complete_value = w ∙ ap (λ (b : Option ℕ). not (found b)) (sym answers ∙ ap (next order on) same);
      }

      -- None: generation has no more rows.
      pub no_more : none ≡ sought → count ≤ k → Ended count true kept
      no_more e l =
          let sum : k - count + count ≡ k = omega arith in
          ended (sym (stopped order on off count (k - count) (answers ∙ sym e)) ∙ ap rows_at sum) true (ap (λ (b : Option ℕ). not (found b)) e)

    -- After k rows the answer says whether there are more.
    pub at_end : (count last : ℕ) (kept : List Row) → count ≡ k → Generating count last kept → Generating k last kept
    at_end count last kept e g = subst (λ (m : ℕ). Generating m last kept) e g

    pub all-given : (last : ℕ) (kept : List Row) (g : Generating k last kept) (whole : Bool) → whole ≡ not (found (sought k last kept g)) → Ended k whole kept
    all-given last kept g whole w = ended k last kept g refl whole w
