-- Rows kept as pairs of words, and written one after another over a run.
use mathlib.Core.Path.{◌≡◌, refl, sym, ap, ◌∙◌}
use mathlib.Core.List.{List, [], ◌∷◌, ◌++◌, append_assoc, append-nil}
use Prim.Native.Nat.{ℕ, ◌+◌, ◌-◌, ◌*◌, ◌≤◌, ◌<◌}
use native.Mathlib.Numerals.{add-one}
use native.Mathlib.Omega.{arith}
use lib.ListN.{length, get_or, take, drop, set, length-append, length-drop}
use lib.Seq.{drop-drop, drop_at, take-suc, take_at, take_all, length-take-le}
use Rattle.std.proofs.lemmas.List.{drop_all}
use borrow.Rule.Slice.PartMut.{mid_of, put_mid}
use Rattle.rules.specs.declared.Row.{Row}
use Rattle.rules.specs.Answers.{over}
use Rattle.sheets.proofs.Over.{over-more}
use Rattle.probe.specs.Phase.{pairs_of}

pub pairs-append : (xs ys : List Row) → pairs_of (xs ++ ys) ≡ pairs_of xs ++ pairs_of ys
unfolding pairs_of
pairs-append [] ys = refl
pairs-append (r ∷ xs) ys = ap (λ (ws : List ℕ). r.care ∷ r.value ∷ ws) (pairs-append xs ys)

pub pairs-length : (rows : List Row) → length (pairs_of rows) ≡ 2 * length rows
unfolding pairs_of
pairs-length [] = refl
pairs-length (r ∷ rows) = let e = pairs-length rows in omega arith

-- No rows, and one row more.
pub over-none : (old : List ℕ) → over (pairs_of []) old ≡ old
unfolding pairs_of
over-none old = refl

pub over-row : (rows : List Row) (old : List ℕ) (r : Row) → 2 * length rows + 2 ≤ length old
    → set (set (over (pairs_of rows) old) (2 * length rows) r.care) (2 * length rows + 1) r.value ≡ over (pairs_of (rows ++ (r ∷ []))) old
unfolding pairs_of
over-row rows old r h =
    let p = pairs_of rows in
    let e : 2 * length rows ≡ length p = sym (pairs-length rows) in
    let f : 2 * length rows + 1 ≡ length (p ++ (r.care ∷ [])) = ap (λ (n : ℕ). n + 1) e ∙ sym (length-append p (r.care ∷ [])) in
    ap (λ (t : List ℕ). set t (2 * length rows + 1) r.value) (over-more p old r.care (2 * length rows) e (omega arith))
    ∙ over-more (p ++ (r.care ∷ [])) old r.value (2 * length rows + 1) f (omega arith)
    ∙ ap (λ (t : List ℕ). over t old) (append_assoc p (r.care ∷ []) (r.value ∷ []) ∙ sym (pairs-append rows (r ∷ [])))

-- The rows of a list, up to one of them.
pub over-take : (rows : List Row) (old words : List ℕ) (at : ℕ) (d : Row) → at < length rows → 2 * length rows ≤ length old → words ≡ over (pairs_of (take at rows)) old
    → set (set words (2 * at) (get_or rows at d).care) (2 * at + 1) (get_or rows at d).value ≡ over (pairs_of (take (at + 1) rows)) old
over-take rows old words at d h l w =
    let r = get_or rows at d in
    let e : length (take at rows) ≡ at = length-take-le at rows (omega arith) in
    ap (λ (ws : List ℕ). set (set ws (2 * at) r.care) (2 * at + 1) r.value) w
    ∙ ap (λ (m : ℕ). set (set (over (pairs_of (take at rows)) old) (2 * m) r.care) (2 * m + 1) r.value) (sym e)
    ∙ over-row (take at rows) old r (omega arith)
    ∙ ap (λ (rs : List Row). over (pairs_of rs) old) (sym (ap (λ (m : ℕ). take m rows) (add-one at) ∙ take-suc rows at d h))

-- Rows written over the first words, and others over the rest, from `at` on.
pub over-rest : (xs ys : List Row) (old run rest : List ℕ) (at : ℕ) → at ≡ 2 * length xs → run ≡ over (pairs_of xs) old
    → rest ≡ over (pairs_of ys) (mid_of at (length run - at) run) → put_mid at (length run - at) run rest ≡ over (pairs_of (xs ++ ys)) old
over-rest xs ys old run rest at a r e =
    let p = pairs_of xs in
    let q = pairs_of ys in
    let k = length run - at in
    let l : length p ≡ at = pairs-length xs ∙ sym a in
    let back : drop at run ≡ drop (length p) old = ap (drop at) r ∙ drop_at p (drop (length p) old) at l in
    let d = length-drop at run in
    ap (λ (t : List ℕ). t ++ (rest ++ drop k (drop at run))) (ap (take at) r ∙ take_at p (drop (length p) old) at l)
    ∙ ap (λ (t : List ℕ). p ++ (rest ++ t)) (drop_all k (drop at run) (omega arith))
    ∙ ap (λ (t : List ℕ). p ++ t) (append-nil rest ∙ e ∙ ap (over q) (take_all k (drop at run) (omega arith) ∙ back))
    ∙ ap (λ (t : List ℕ). p ++ (q ++ t)) (drop-drop (length q) (length p) old ∙ ap (λ (m : ℕ). drop m old) (sym (length-append p q)))
    ∙ sym (append_assoc p q (drop (length (p ++ q)) old))
    ∙ ap (λ (t : List ℕ). over t old) (sym (pairs-append xs ys))
