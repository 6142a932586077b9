-- One row judged after another, first to last.
use mathlib.Core.Path.{◌≡◌, refl, sym, ap, ap₂, ◌∙◌, fun_ext}
use mathlib.Core.Bool.{Bool, true, false, not, cond, ◌&&◌}
use mathlib.Core.List.{List, [], ◌∷◌, ◌++◌}
use Prim.Native.Nat.{ℕ, ◌+◌, ◌≤◌, ◌<◌}
use native.Mathlib.Nat.{zero-add, add-zero, suc-add}
use native.Mathlib.Omega.{arith}
use lib.IntN.{ℤ}
use lib.ListN.{length, get_or, take, drop, set, length-append, length-drop}
use lib.Seq.{take-add, length-take-le, get_or-append-add}
use Rattle.rules.specs.declared.Row.{Row}
use Rattle.rules.specs.Words.{fits, one, in_some}
use Rattle.rules.specs.Search.{holds_some}
use Rattle.rules.specs.Method.{needed, marks}
use Rattle.rules.specs.Answers.{over}
use Rattle.rules.specs.Calls.{kept}
use Rattle.std.proofs.lemmas.Bool.{and_parts, and_from}
use Rattle.search.specs.Question.{good, cares_within, Asked}
use Rattle.method.specs.Blank.{blank, blanked, judged_at}
use Rattle.method.specs.Lent.{stays, behind}
use Rattle.method.proofs.Blanks.{Judged, others, others-hold, judged-none, judged-more, judged-all, blanked-more, blanked-rest, blanked-length}
use Rattle.method.proofs.Next.{good-append}
use Rattle.method.proofs.Judges.{blank-fits}

-- Rows blanked care for no other variable than before.
blanked-within : (n : ℕ) (first : List Row) (m : List Bool) (rows : List Row) → cares_within n (first ++ rows) ≡ true → cares_within n (first ++ blanked m rows) ≡ true
unfolding cares_within blanked
blanked-within n [] [] rows h = h
blanked-within n [] (b ∷ m) [] h = h
blanked-within n [] (true ∷ m) (r ∷ rows) h =
    let b = and_parts (fits n r.care) (cares_within n rows) h in
    and_from _ _ b.0 (blanked-within n [] m rows b.1)
blanked-within n [] (false ∷ m) (r ∷ rows) h =
    and_from _ _ (blank-fits n) (blanked-within n [] m rows (and_parts (fits n r.care) (cares_within n rows) h).1)
blanked-within n (r ∷ first) m rows h =
    let b = and_parts (fits n r.care) (cares_within n (first ++ rows)) h in
    and_from _ _ b.0 (blanked-within n first m rows b.1)

-- A row behind others is the one judged.
set-behind : (xs ys : List Row) (i : ℕ) (a : Row) → set (xs ++ ys) (length xs + i) a ≡ xs ++ set ys i a
set-behind [] ys i a = ap (λ (k : ℕ). set ys k a) (zero-add i)
set-behind (x ∷ xs) ys i a = ap (λ (k : ℕ). set (x ∷ (xs ++ ys)) k a) (suc-add (length xs) i) ∙ ap (λ (zs : List Row). x ∷ zs) (set-behind xs ys i a)

module _ (order : List ℕ) (a : List ℤ) (first rows : List Row) (m : List Bool) (l : length m < length rows) where
  at_rest : get_or (first ++ blanked m rows) (length first + length m) blank ≡ get_or rows (length m) blank
  at_rest = get_or-append-add first (blanked m rows) (length m) blank ∙ blanked-rest m rows l blank

  row-needed : stays order a (first ++ blanked m rows) (length first + length m)
      ≡ needed (good a [] first) order (get_or rows (length m) blank) (others (good a [] first) order rows m)
  row-needed = ap₂ (λ (P : ℕ → Bool) (r : Row). holds_some P order r) (fun_ext same) at_rest
    where
      same : (s : ℕ) → good a [] (set (first ++ blanked m rows) (length first + length m) blank) s
          ≡ (good a [] first s && not (in_some (others (good a [] first) order rows m) s))
      same s =
          ap (λ (x : List Row). good a [] x s) (set-behind first (blanked m rows) (length m) blank)
          ∙ good-append a [] first (set (blanked m rows) (length m) blank) s
          ∙ ap (λ (x : Bool). good a [] first s && not x) (others-hold (good a [] first) order rows m l s)

  row-judged : (b : Bool) → judged_at b (first ++ blanked m rows) (length first + length m) ≡ first ++ blanked (m ++ (b ∷ [])) rows
  row-judged b =
      set-behind first (blanked m rows) (length m) (cond b (get_or (first ++ blanked m rows) (length first + length m) blank) blank)
      ∙ ap (λ (r : Row). first ++ set (blanked m rows) (length m) (cond b r blank)) at_rest
      ∙ ap (λ (x : List Row). first ++ x) (sym (blanked-more m b rows l))

-- How many marks stay.
kept_more : (m : List Bool) (b : Bool) → kept (m ++ (b ∷ [])) ≡ kept m + one b
unfolding kept
kept_more [] b = omega arith
kept_more (x ∷ m) b = let e = kept_more m b in omega (arith, e)

pub one_more : (b : Bool) (stay : ℕ) → b ≡ true → stay + 1 ≡ stay + one b
one_more b stay e = rw e

pub no_more : (b : Bool) (stay : ℕ) → b ≡ false → stay ≡ stay + one b
no_more b stay e = rw e (omega arith)

kept-within : (m : List Bool) → kept m ≤ length m
unfolding kept
kept-within [] = omega arith
kept-within (true ∷ m) = let h = kept-within m in omega arith
kept-within (false ∷ m) = let h = kept-within m in omega arith

-- Pruning so far: the marks of the rows judged behind the first ones, and the rows as they stand, those blanked that go.
pub record Pruning (order : List ℕ) (a : List ℤ) (first rows now : List Row) (stay at : ℕ) : Type 0 where
  pub marked : List Bool
  pub size : length first + length marked ≡ at
  pub blanks : now ≡ first ++ blanked marked rows
  pub count-is : stay ≡ kept marked
  pub judged : Judged (good a [] first) order rows marked

module _ (order : List ℕ) (a : List ℤ) (first rows : List Row) where
  pub begin : (now : List Row) (at : ℕ) → now ≡ first ++ rows → length first ≡ at → Pruning order a first rows now 0 at
  unfolding kept blanked
  begin now at e f = record { marked = []; size = add-zero (length first) ∙ f; blanks = e; count-is = refl; judged = judged-none (good a [] first) order rows }

  module _ (now : List Row) (stay at : ℕ) (p : Pruning order a first rows now stay at) where
    now-length : length now ≡ length first + length rows
    now-length =
        ap length p.blanks ∙ length-append first (blanked p.marked rows) ∙ ap (λ (k : ℕ). length first + k) (blanked-length p.marked rows)

    pub now-asked : Asked order a [] (first ++ rows) → Asked order a [] now
    now-asked q = record {
      ordered = q.ordered;
      size = q.size;
      reach-a = q.reach-a;
      reach-b = q.reach-b;
      cares = ap (cares_within (length order)) p.blanks ∙ blanked-within (length order) first p.marked rows q.cares;
    }

    pub count-within : stay ≤ at
    count-within = let e = kept-within p.marked in let f = p.count-is in let g = p.size in omega arith

    pub turn : at < length now → (b : Bool) → b ≡ stays order a now at → (new : List Row) → new ≡ judged_at b now at
        → (more : ℕ) → more ≡ stay + one b → Pruning order a first rows new more (at + 1)
    turn l b e new n more m =
        let marks : List Bool = p.marked in
        let here : length marks < length rows = let f = p.size in let g = now-length in omega arith in
        record {
          marked = marks ++ (b ∷ []);
          size = ap (λ (k : ℕ). length first + k) (length-append marks (b ∷ [])) ∙ (let f = p.size in omega arith);
          blanks = n ∙ ap₂ (judged_at b) p.blanks (sym p.size) ∙ row-judged order a first rows marks here b;
          count-is = m ∙ ap (λ (k : ℕ). k + one b) p.count-is ∙ sym (kept_more marks b);
          judged = judged-more (good a [] first) order rows marks b blank here p.judged
              (sym (e ∙ ap₂ (stays order a) p.blanks (sym p.size) ∙ row-needed order a first rows marks here));
        }

    all-marked : at ≡ length now → p.marked ≡ marks (good a [] first) order rows
    all-marked h = judged-all (good a [] first) order rows p.marked (let f = p.size in let g = now-length in omega arith) p.judged

    pub all-blanked : at ≡ length now → now ≡ first ++ blanked (marks (good a [] first) order rows) rows
    all-blanked h = p.blanks ∙ ap (λ (m : List Bool). first ++ blanked m rows) (all-marked h)

    pub all-counted : at ≡ length now → stay ≡ kept (marks (good a [] first) order rows)
    all-counted h = p.count-is ∙ ap kept (all-marked h)

-- The rows behind the first ones of a run, and the run with them changed.
module _ (old : List Row) (ons count : ℕ) (room : ons + count ≤ length old) where
  pub split : take (ons + count) old ≡ take ons old ++ behind ons count old
  split = take-add ons count old

  pub first-size : length (take ons old) ≡ ons
  first-size = length-take-le ons old (omega arith)

  pub behind-size : length (behind ons count old) ≡ count
  behind-size = length-take-le count (drop ons old) (rw (length-drop ons old) (omega arith))

  pub changed : (now new : List Row) → length now ≡ ons + count → now ≡ new → now ++ drop (ons + count) old ≡ over new old
  changed now new l e = ap (λ (k : ℕ). now ++ drop k old) (sym l) ∙ ap (λ (rows : List Row). over rows old) e
