-- The search phase: the rows found so far are words of the run, and of them the last ones also stand behind the barred rows.
use mathlib.Core.Path.{◌≡◌, refl, sym, ap, ◌∙◌, subst}
use mathlib.Core.Bool.{Bool, true, cond}
use mathlib.Core.List.{List, [], ◌∷◌, ◌++◌, append_assoc, append-nil}
use mathlib.Core.Option.{Option, none, some}
use Prim.Native.Nat.{ℕ, ◌+◌, ◌-◌, ◌*◌, ◌/◌, ◌^◌, ◌≤◌, ◌<◌}
use native.Mathlib.Numerals.{add-one}
use native.Mathlib.Omega.{arith}
use lib.Dec.{eqb}
use lib.IntN.{ℤ}
use lib.ListN.{length, take, set, length-append, length-set}
use lib.Seq.{take-suc-set, take-set-le}
use borrow.Author.Tests.{eqb-false}
use Rattle.rules.specs.declared.Row.{Row}
use Rattle.rules.specs.Words.{fits, holds, full, dashes, in_some}
use Rattle.rules.specs.Search.{smallest, not_below}
use Rattle.rules.specs.Method.{next, generated, all}
use Rattle.rules.specs.Answers.{over}
use Rattle.std.proofs.lemmas.Bool.{and_parts, and_from}
use Rattle.rules.proofs.Logic.{test, clash}
use Rattle.rules.proofs.Rows.{full-row}
use Rattle.rules.proofs.Orders.{IsOrder, is-order}
use Rattle.rules.proofs.Generation.{step-some, stopped, next-is}
use Rattle.sheets.proofs.Over.{over-length}
use Rattle.search.specs.Question.{good, cares_within, Asked}
use Rattle.method.proofs.Next.{Resumes, resumes-first, resumes-next, next-found}
use Rattle.probe.specs.Phase.{pairs_of}
use Rattle.probe.proofs.Pairs.{pairs-length, over-none, over-row}
use Rattle.probe.proofs.Phases.{none-widens}
use Rattle.probe.proofs.Recent.{Onward, Recent, recent-none, onward-more, recent-more, recent-found}

cares-more : (n : ℕ) (rows : List Row) (r : Row) → cares_within n rows ≡ true → fits n r.care ≡ true → cares_within n (rows ++ (r ∷ [])) ≡ true
unfolding cares_within
cares-more n [] r h f = and_from _ _ f refl
cares-more n (x ∷ rows) r h f = let p = and_parts (fits n x.care) (cares_within n rows) h in and_from _ _ p.0 (cares-more n rows r p.1 f)

-- `barred`: the first `ons` cells. `old`: the run.
module _ (order : List ℕ) (sheet : List ℤ) (barred : List Row) (ons : ℕ) (old : List ℕ) where
  abbrev on : ℕ → Bool
  on = good sheet [] barred

  abbrev rows_at : ℕ → List Row
  rows_at count = generated order on all count

  abbrev room : ℕ
  room = length old / 2

  -- The cells up to a place are the barred rows, and some of the rows found.
  pub record Held (held : ℕ) (cells recent : List Row) : Type 0 where
    pub behind : ons ≤ held
    pub inside : held ≤ length cells
    pub stands : take held cells ≡ barred ++ recent
    pub cares : cares_within (length order) (barred ++ recent) ≡ true

  -- After `count` rows, the last of them from the setting `last`.
  pub record Finding (count last held : ℕ) (cells : List Row) (words : List ℕ) : Type 0 where
    pub written : words ≡ over (pairs_of (rows_at count)) old
    pub whole : length (rows_at count) ≡ count
    pub resumes : Resumes order on last (rows_at count)
    pub onward : Onward (length order) order on (rows_at count)
    pub first : take ons cells ≡ barred
    pub few : ons < length cells
    pub recent : List Row
    pub keeps : Held held cells recent
    pub stands-for : Recent (length order) order on last (rows_at count) recent

  module _ (q : Asked order sheet [] barred) where
    is_ordered : IsOrder (length order) order
    is_ordered = is-order (length order) order q.ordered

    barred-alone : cares_within (length order) (barred ++ []) ≡ true
    barred-alone = ap (cares_within (length order)) (append-nil barred) ∙ q.cares

    pub begin : (cells : List Row) → take ons cells ≡ barred → ons < length cells → Finding 0 0 ons cells old
    unfolding generated in_some
    begin cells first few = record {
      written = sym (over-none old);
      whole = refl;
      resumes = resumes-first (length order) order is_ordered on;
      onward = λ t u l k h. clash h refl;
      first = first;
      few = few;
      recent = [];
      keeps = record { behind = omega arith; inside = omega arith; stands = first ∙ sym (append-nil barred); cares = barred-alone };
      stands-for = recent-none (length order) order on;
    }

    module _ (count last held : ℕ) (cells : List Row) (words : List ℕ) (g : Finding count last held cells words) where
      pub still-asked : Asked order sheet [] (take held cells)
      still-asked = record {
        ordered = q.ordered;
        size = q.size;
        reach-a = q.reach-a;
        reach-b = q.reach-b;
        cares = ap (cares_within (length order)) g.keeps.stands ∙ g.keeps.cares;
      }

      -- What is found there is the next setting.
      abbrev sought : Option ℕ
      sought = smallest (not_below order last (good sheet [] (take held cells))) order dashes

      answers : next order on (rows_at count) ≡ sought
      answers =
          sym (next-found (length order) order is_ordered sheet barred last (rows_at count) g.resumes)
          ∙ sym (recent-found (length order) order is_ordered sheet barred last (rows_at count) g.recent g.stands-for)
          ∙ ap (λ (rows : List Row). smallest (not_below order last (good sheet [] rows)) order dashes) (sym g.keeps.stands)

      pub words-left : count < room → 2 * count + 2 ≤ length words
      words-left l =
          let p = pairs-length (rows_at count) in
          let o = over-length (pairs_of (rows_at count)) old (omega (arith, g.whole)) in
          omega (arith, ap length g.written)

      -- Where the next row goes: of full cells only the barred rows stay.
      pub record Place (at : ℕ) : Type 0 where
        pub rows : List Row
        pub among : (t : ℕ) → in_some rows t ≡ true → in_some (rows_at count) t ≡ true
        pub keeps : Held at cells rows
        pub free : at < length cells

      pub placed : (at : ℕ) → at ≡ cond (eqb held (length cells)) ons held → Place at
      unfolding in_some
      placed at e =
          test (eqb held (length cells))
          (λ t. let same : at ≡ ons = e ∙ ap (λ (b : Bool). cond b ons held) t in
          let few = g.few in
          record {
            rows = [];
            among = λ t h. clash h refl;
            keeps = record {
              behind = omega arith;
              inside = omega arith;
              stands = ap (λ (m : ℕ). take m cells) same ∙ g.first ∙ sym (append-nil barred);
              cares = barred-alone;
            };
            free = omega arith;
          })
          (λ t. let same : at ≡ held = e ∙ ap (λ (b : Bool). cond b ons held) t in
          let apart = eqb-false held (length cells) t in
          let inside = g.keeps.inside in
          record {
            rows = g.recent;
            among = g.stands-for.among;
            keeps = subst (λ (m : ℕ). Held m cells g.recent) (sym same) g.keeps;
            free = omega arith;
          })

      -- A setting: its full row is written and kept, and the next is sought from it on.
      one_full : (s : ℕ) → some s ≡ sought → count < room → (at : ℕ) → Place at
          → Finding (count + 1) s (at + 1) (set cells at (full (length order) s)) (set (set words (2 * count) (2 ^ length order - 1)) (2 * count + 1) s)
      one_full s e l at place =
          let r : Row = full (length order) s in
          let n = answers ∙ sym e in
          let step : rows_at (count + 1) ≡ rows_at count ++ (r ∷ []) =
          ap rows_at (add-one count) ∙ step-some order on all count s n ∙ ap (λ (x : Row). rows_at count ++ (x ∷ [])) (sym (none-widens order s r refl)) in
          let below = (next-is (length order) order is_ordered on all (rows_at count) s n).0 in
          let k = place.keeps in
          record {
            written = ap (λ (w : List ℕ). set (set w (2 * count) r.care) (2 * count + 1) r.value) g.written
                ∙ ap (λ (m : ℕ). set (set (over (pairs_of (rows_at count)) old) (2 * m) r.care) (2 * m + 1) r.value) (sym g.whole)
                ∙ over-row (rows_at count) old r (omega (arith, g.whole))
                ∙ ap (λ (rows : List Row). over (pairs_of rows) old) (sym step);
            whole = ap length step ∙ length-append (rows_at count) (r ∷ []) ∙ ap (λ (m : ℕ). m + 1) g.whole;
            resumes = subst (Resumes order on s) (sym step) (resumes-next (length order) order is_ordered on (rows_at count) r s n);
            onward = subst (Onward (length order) order on) (sym step) (onward-more (length order) order is_ordered on (rows_at count) s n g.onward);
            first = take-set-le ons cells at r k.behind ∙ g.first;
            few = rw length-set g.few;
            recent = place.rows ++ (r ∷ []);
            keeps = record {
              behind = let b = k.behind in omega arith;
              inside = rw length-set (let f = place.free in omega arith);
              stands = ap (λ (m : ℕ). take m (set cells at r)) (add-one at) ∙ take-suc-set cells at r place.free
                  ∙ ap (λ (rows : List Row). rows ++ (r ∷ [])) k.stands ∙ append_assoc barred place.rows (r ∷ []);
              cares = ap (cares_within (length order)) (sym (append_assoc barred place.rows (r ∷ [])))
                  ∙ cares-more (length order) (barred ++ place.rows) r k.cares (and_parts (fits (length order) r.care) (holds r s) (full-row (length order) s below)).0;
            };
            stands-for = subst (λ (rows : List Row). Recent (length order) order on s rows (place.rows ++ (r ∷ []))) (sym step)
                (recent-more (length order) order is_ordered on (rows_at count) s n g.onward place.rows place.among);
          }

      pub one_more : (s : ℕ) → some s ≡ sought → count < room → (r : Row) → r ≡ full (length order) s → (at : ℕ) → at ≡ cond (eqb held (length cells)) ons held
          → (run : List ℕ) → run ≡ set (set words (2 * count) r.care) (2 * count + 1) r.value → Finding (count + 1) s (at + 1) (set cells at r) run
      one_more s e l r f at p run w =
          subst (Finding (count + 1) s (at + 1) (set cells at r)) (sym w)
          (subst (λ (x : Row). Finding (count + 1) s (at + 1) (set cells at x) (set (set words (2 * count) x.care) (2 * count + 1) x.value)) (sym f)
          (one_full s e l at (placed at p)))

      -- None: generation has no more rows.
      pub no_more : none ≡ sought → count ≤ room → (words ≡ over (pairs_of (rows_at room)) old) × (count ≡ length (rows_at room))
      no_more e l =
          let sum : room - count + count ≡ room = omega arith in
          let same : rows_at count ≡ rows_at room = sym (stopped order on all count (room - count) (answers ∙ sym e)) ∙ ap rows_at sum in
          (g.written ∙ ap (λ (rows : List Row). over (pairs_of rows) old) same, sym g.whole ∙ ap length same)

      pub all-found : count ≡ room → (words ≡ over (pairs_of (rows_at room)) old) × (room ≡ length (rows_at room))
      all-found e = subst (λ (m : ℕ). (words ≡ over (pairs_of (rows_at m)) old) × (m ≡ length (rows_at m))) e (g.written, sym g.whole)
