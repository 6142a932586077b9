-- Records marked where they stand, one after the other.
use Rattle.std.proofs.Common.{◌≡◌, refl, ap, ℕ, zero, suc, ◌+◌, ◌<◌, ◌≤◌, List, [], ◌∷◌, map, length, take, get_or, arith}
use native.Mathlib.Nat.{suc-add}
use lib.ListN.{set}
use Rattle.rules.specs.declared.Row.{Row}
use Rattle.rules.specs.Words.{dashes}
use Rattle.method.specs.Blank.{is_blank}
use Rattle.records.specs.declared.cubes.Cube.{Cube}
use Rattle.records.specs.Marks.{with_mark, marked_by}

-- one record more, by its row
pub marked_row : (rows : List Row) (ys : List Cube) (k : ℕ) (e : Cube) → k < length rows → length rows ≤ length ys
    → set (marked_by (map is_blank (take k rows)) ys) k (with_mark (is_blank (get_or rows k dashes)) (get_or (marked_by (map is_blank (take k rows)) ys) k e))
    ≡ marked_by (map is_blank (take (k + 1) rows)) ys
unfolding marked_by
marked_row [] ys k e l m = absurd (omega arith)
marked_row (r ∷ rows) [] k e l m = absurd (omega arith)
marked_row (r ∷ rows) (c ∷ ys) zero e l m = refl
marked_row (r ∷ rows) (c ∷ ys) (suc k) e l m =
    rw suc-add (ap (λ (z : List Cube). with_mark (is_blank r) c ∷ z) (marked_row rows ys k e (omega arith) (omega arith)))
