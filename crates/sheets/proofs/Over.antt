-- What is written one after another over the first cells of a lent run.
use mathlib.Core.Path.{◌≡◌, sym, ap, ◌∙◌}
use mathlib.Core.List.{List, [], ◌∷◌, ◌++◌, append_assoc}
use Prim.Native.Nat.{ℕ, suc, ◌≤◌, ◌<◌}
use native.Mathlib.Numerals.{add-one}
use native.Mathlib.Omega.{arith}
use lib.ListN.{length, get_or, drop, set, length-append, length-drop}
use lib.Seq.{drop-cons, set_at}
use Rattle.rules.specs.Answers.{over}

-- the run's length
pub over-length : {B : Type 0} (new old : List B) → length new ≤ length old → length (over new old) ≡ length old
over-length new old h = length-append new (drop (length new) old) ∙ rw (length-drop (length new) old) (omega arith)

-- one more cell
pub over-more : {B : Type 0} (new old : List B) (b : B) (k : ℕ) → k ≡ length new → k < length old → set (over new old) k b ≡ over (new ++ (b ∷ [])) old
over-more new old b k e h =
    let l : length new < length old = omega arith in
    ap (λ t. set (new ++ t) k b) (drop-cons old (length new) b l)
    ∙ set_at new (get_or old (length new) b) (drop (suc (length new)) old) b k (sym e)
    ∙ sym (append_assoc new (b ∷ []) (drop (length (new ++ (b ∷ []))) old)
    ∙ ap (λ (m : ℕ). new ++ (b ∷ drop m old)) (length-append new (b ∷ []) ∙ add-one (length new)))
