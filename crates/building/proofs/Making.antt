-- What generation leaves, and what pruning leaves of that.
use mathlib.Core.Path.{◌≡◌, refl, sym, ap, ◌∙◌}
use mathlib.Core.Bool.{Bool, true, false, cond}
use mathlib.Core.List.{List, [], ◌∷◌, ◌++◌, append_assoc, append-nil}
use Prim.Native.Nat.{ℕ, ◌+◌, ◌-◌, ◌≤◌, ◌<◌}
use native.Mathlib.Numerals.{add-one}
use native.Mathlib.Omega.{arith}
use lib.ListN.{length, get_or, take, drop, set, length-append, length-drop}
use lib.Seq.{take-suc, take-append_seam, take_at, drop_at, take-length, drop-length, length-take-le}
use borrow.Rule.Slice.PartMut.{put_mid}
use native.Mathlib.Nat.{zero-add}
use Rattle.rules.specs.declared.Row.{Row}
use Rattle.rules.specs.Words.{one, is_row, fits, holds}
use Rattle.rules.specs.Sheets.{in_reach}
use Rattle.rules.specs.Method.{max_rows, list_of, marks, picked, pruned, all}
use Rattle.rules.specs.Answers.{over}
use Rattle.rules.specs.Calls.{kept}
use Rattle.std.proofs.lemmas.Bool.{and_parts, and_from}
use Rattle.std.proofs.lemmas.Slice.{between-put_mid}
use Rattle.rules.proofs.Orders.{is-order}
use Rattle.rules.proofs.Generation.{All, generated-rows}
use Rattle.sheets.specs.Numbers.{numbers_of}
use Rattle.sheets.proofs.Over.{over-more}
use Rattle.search.specs.Question.{cares_within, Asked}
use Rattle.method.specs.Blank.{blanked, solid}
use Rattle.method.proofs.Blanks.{solid-all, solid-blanked, blanked-length}
use Rattle.method.proofs.Standing.{marks-length, all-count, between-rows}
use Rattle.method.specs.Lent.{behind, staying}
use Rattle.building.specs.declared.lent.Lent.{Lent}
use Rattle.building.specs.Built.{Made, generated_in, on_at, on_rows, off_at}
use Rattle.building.proofs.Asking.{numbers-none, off-asked, on-asked}

-- The rows behind the first ones, where both were put over the first of a run.
pub behind-over : (front rows old new : List Row) (m count : ℕ) → m ≡ length front → count ≡ length rows → new ≡ over (front ++ rows) old
    → behind m count new ≡ rows
behind-over front rows old new m count e f h =
    let rest : List Row = drop (length (front ++ rows)) old in
    rw (f, h, append_assoc front rows rest, drop_at front (rows ++ rest) m (sym e), take_at rows rest (length rows) refl)

pub within-over : (front rows old new : List Row) (m count : ℕ) → m ≡ length front → count ≡ length rows → new ≡ over (front ++ rows) old → m + count ≤ length new
within-over front rows old new m count e f h = rw h (simp length-append (omega arith))

-- One more row is copied; and what was copied stands first.
pub copied-next : (rows old kept : List Row) (k : ℕ) (none : Row) → kept ≡ over (take k rows) old → k < length rows → length rows ≤ length old
    → set kept k (get_or rows k none) ≡ over (take (k + 1) rows) old
copied-next rows old kept k none e h l =
    let s : take k rows ++ (get_or rows k none ∷ []) ≡ take (k + 1) rows = rw add-one (sym (take-suc rows k none h)) in
    rw e (over-more (take k rows) old (get_or rows k none) k (sym (length-take-le k rows (omega arith))) (omega arith) ∙ ap (λ (f : List Row). over f old) s)

pub first-are : (r old rows : List Row) → r ≡ rows → take (length r) (over r old) ≡ rows
first-are r old rows h = take-append_seam r (drop (length r) old) ∙ h

-- How many are marked as staying is how many are picked.
picked-length : (m : List Bool) (rows : List Row) → length m ≡ length rows → length (picked m rows) ≡ kept m
unfolding picked kept
picked-length [] rows e = refl
picked-length (b ∷ m) [] e = let z : ⊥ = omega arith in absurd z
picked-length (b ∷ m) (r ∷ rows) e = go b (picked-length m rows (ap Prim.Native.Nat.pred e))
  where
    go : (b : Bool) → length (picked m rows) ≡ kept m → length (cond b (r ∷ picked m rows) (picked m rows)) ≡ one b + kept m
    go true q = omega arith
    go false q = omega arith

cares-of-rows : (n : ℕ) (rows : List Row) → All (λ r. is_row n r ≡ true) rows → cares_within n rows ≡ true
unfolding cares_within
cares-of-rows n [] w = refl
cares-of-rows n (r ∷ rows) w = and_from _ _ (and_parts (fits n r.care) (holds r r.value) w.0).0 (cares-of-rows n rows w.1)

-- Generated rows are rows of n inputs: none is a blank, and they may be asked for.
module _ (lent : Lent) {k : ℕ} {rows : List Row} {whole : Bool} (made : Made lent k rows whole) where
  all-rows : All (λ r. is_row (length lent.order.now) r ≡ true) rows
  all-rows = rw made.rows_are (generated-rows _ _ (is-order _ _ lent.asked.ordered) (on_at lent) (off_at lent) k)

  pub rows_solid : solid rows ≡ rows
  rows_solid = solid-all _ rows all-rows

  rows-asked : {count : ℕ} → count ≡ length rows → Asked lent.order.now (numbers_of []) [] (take (0 + count) rows)
  unfolding in_reach
  rows-asked e =
      let q = lent.asked in
      rw (numbers-none, e, zero-add, take-length rows)
      (record { ordered = q.ordered; size = q.size; reach-a = refl; reach-b = refl; cares = cares-of-rows _ rows all-rows })

-- What is marked, and what is left, where all of a run is pruned and every setting counts.
module _ (order : List ℕ) (rows : List Row) {count : ℕ} (e : count ≡ length rows) where
  marked : staying order [] 0 count rows ≡ marks all order rows
  marked = rw (e, take-length rows, numbers-none, all-count)

  marks-size : length (marks all order rows) ≡ length rows
  marks-size = marks-length all order [] rows

  left : {new : List Row} → new ≡ over (take 0 rows ++ blanked (staying order [] 0 count rows) (behind 0 count rows)) rows → new ≡ blanked (marks all order rows) rows
  left h = h ∙ rw (marked, e, take-length rows, blanked-length (marks all order rows) rows, drop-length rows) (append-nil (blanked (marks all order rows) rows))

-- The rows of a run behind the first ones, and the run where these are written over.
module _ (on run : List Row) (count : ℕ) where
  abbrev part : List Row
  part = take (length on + count - length on) (drop (length on) run)

  abbrev after : List Row → List Row
  after new = put_mid (length on) (length on + count - length on) run new

-- Where the rows behind on's are those that a list may have, they are pruned to the list.
module _ (lent : Lent) (on run : List Row) (count : ℕ) {whole : Bool} (o : on ≡ on_rows lent) (w : length (on_rows lent) + count ≤ length run)
    (made : Made lent max_rows (generated_in lent count run) whole) where
  abbrev order : List ℕ
  order = lent.order.now

  abbrev list : List Row
  list = list_of order (on_at lent) (off_at lent)

  abbrev rows : List Row
  rows = part on run count

  rows-are : rows ≡ generated_in lent count run
  rows-are = between-rows run (length on) count ∙ ap (λ (r : List Row). behind (length r) count run) o

  rows-made : Made lent max_rows rows whole
  rows-made = rw rows-are made

  size : count ≡ length rows
  size = sym (ap length rows-are ∙ length-take-le count (drop (length (on_rows lent)) run) (omega (arith, length-drop (length (on_rows lent)) run)))

  pub part-asked : Asked order (numbers_of []) [] (take (0 + count) rows)
  part-asked = rows-asked lent rows-made size

  list-is : picked (marks all order rows) rows ≡ list
  unfolding list_of pruned
  list-is = rw rows-made.rows_are

  pub list-count : kept (staying order [] 0 count rows) ≡ length list
  list-count = ap kept (marked order rows size) ∙ sym (picked-length _ rows (marks-size order rows size)) ∙ ap length list-is

  module _ (new : List Row) (h : new ≡ over (take 0 rows ++ blanked (staying order [] 0 count rows) (behind 0 count rows)) rows) where
    new-stands : generated_in lent count (after on run count new) ≡ new
    new-stands =
        let same : length new ≡ length rows = ap length (left order rows size h) ∙ blanked-length _ rows in
        let q : length new ≡ length on + count - length on = omega (arith, same, size) in
        let l : length on ≤ length run = omega (arith, ap length o, w) in
        ap (λ (r : List Row). behind (length r) count (after on run count new)) (sym o) ∙ sym (between-rows (after on run count new) (length on) count)
        ∙ between-put_mid (length on) _ run new (length on + count) l q

    pub list-left : solid (generated_in lent count (after on run count new)) ≡ list
    list-left =
        ap solid (new-stands ∙ left order rows size h) ∙ solid-blanked _ _ rows (marks-size order rows size) (all-rows lent rows-made) ∙ list-is

    pub count-left : kept (staying order [] 0 count rows) ≡ length (solid (generated_in lent count (after on run count new)))
    count-left = list-count ∙ ap length (sym list-left)

-- What the checks of these functions take.
pub ruleset apart_steps = (numbers-none, off-asked, on-asked, behind-over, within-over, first-are)

pub ruleset build_steps = (list-count, list-left, count-left)
