-- A given list, row by row: how many rows stand in two runs of words, which they are, and when all of them are rows of n inputs.
use mathlib.Core.Path.{◌≡◌, refl, sym, ap, ◌∙◌}
use mathlib.Core.Bool.{false, ◌&&◌, and-true, and-false}
use mathlib.Core.List.{List, [], ◌∷◌, ◌++◌}
use Prim.Native.Nat.{ℕ, zero, suc, ◌-◌, ◌≤◌, ◌<◌, min}
use native.Mathlib.Nat.{zero-min, min-zero, suc-min-suc, le-min, min-le_left, min-le_right, add-sub_of_le}
use native.Mathlib.Omega.{arith}
use lib.ListN.{length, get_or, take, drop}
use lib.Seq.{take-add}
use Rattle.rules.specs.declared.Row.{Row}
use Rattle.rules.specs.Words.{is_row}
use Rattle.rules.specs.Calls.{rows_in, are_rows}
use Rattle.rules.proofs.Logic.{test}

-- two runs hold as many rows as the shorter has words
pub rows_in-length : (cs vs : List ℕ) → length (rows_in cs vs) ≡ min (length cs) (length vs)
unfolding rows_in
rows_in-length [] vs = sym (zero-min (length vs))
rows_in-length (c ∷ cs) [] = sym (min-zero (suc (length cs)))
rows_in-length (c ∷ cs) (v ∷ vs) = ap suc (rows_in-length cs vs) ∙ sym (suc-min-suc (length cs) (length vs))

-- the row at index k
abbrev pub row_at : List ℕ → List ℕ → ℕ → Row
row_at cs vs k = record { care = get_or cs k 0; value = get_or vs k 0 }

-- the first k + 1 rows are the first k and the row at index k
pub rows_in-take : (cs vs : List ℕ) (k : ℕ) → k < length cs → k < length vs → take (suc k) (rows_in cs vs) ≡ take k (rows_in cs vs) ++ (row_at cs vs k ∷ [])
unfolding rows_in
rows_in-take [] vs k a b = let w : ⊥ = omega arith in absurd w
rows_in-take (c ∷ cs) [] k a b = let w : ⊥ = omega arith in absurd w
rows_in-take (c ∷ cs) (v ∷ vs) zero a b = refl
rows_in-take (c ∷ cs) (v ∷ vs) (suc k) a b = ap (λ l. record { care = c; value = v } ∷ l) (rows_in-take cs vs k (omega arith) (omega arith))

-- all of two lists together are rows exactly if all of each are
pub are_rows-append : (n : ℕ) (xs ys : List Row) → are_rows n (xs ++ ys) ≡ (are_rows n xs && are_rows n ys)
unfolding are_rows
are_rows-append n [] ys = refl
are_rows-append n (x ∷ xs) ys = test (is_row n x) (λ t. rw t (are_rows-append n xs ys)) λ f. rw f

-- so the first k + 1 are rows exactly if the first k are and the row at index k is one
pub are_rows-suc : (n : ℕ) (cs vs : List ℕ) (k : ℕ) → k < length cs → k < length vs
    → are_rows n (take (suc k) (rows_in cs vs)) ≡ (are_rows n (take k (rows_in cs vs)) && is_row n (row_at cs vs k))
unfolding are_rows
are_rows-suc n cs vs k a b =
    ap (are_rows n) (rows_in-take cs vs k a b)
    ∙ are_rows-append n (take k (rows_in cs vs)) (row_at cs vs k ∷ [])
    ∙ ap (λ t. are_rows n (take k (rows_in cs vs)) && t) (and-true (is_row n (row_at cs vs k)))

-- one among the first that is no row of n inputs is enough
pub are_rows-fails : (n : ℕ) (cs vs : List ℕ) (k count : ℕ) → k < count → k < length cs → k < length vs
    → is_row n (row_at cs vs k) ≡ false → are_rows n (take count (rows_in cs vs)) ≡ false
are_rows-fails n cs vs k count l a b f =
    let more = take (count - suc k) (drop (suc k) (rows_in cs vs)) in
    let parts : take count (rows_in cs vs) ≡ take (suc k) (rows_in cs vs) ++ more =
    ap (λ m. take m (rows_in cs vs)) (sym (add-sub_of_le l)) ∙ take-add (suc k) (count - suc k) (rows_in cs vs) in
    ap (are_rows n) parts
    ∙ are_rows-append n (take (suc k) (rows_in cs vs)) more
    ∙ ap (λ t. t && are_rows n more) (are_rows-suc n cs vs k a b ∙ ap (λ t. are_rows n (take k (rows_in cs vs)) && t) f ∙ and-false (are_rows n (take k (rows_in cs vs))))

-- a count is within the rows exactly if it is within both runs
pub count-within : (cs vs : List ℕ) (count : ℕ) → count ≤ length cs → count ≤ length vs → count ≤ length (rows_in cs vs)
count-within cs vs count a b = rw rows_in-length (le-min a b)

pub rows-most : (cs vs : List ℕ) → (length (rows_in cs vs) ≤ length cs) × (length (rows_in cs vs) ≤ length vs)
rows-most cs vs = rw rows_in-length (min-le_left (length cs) (length vs), min-le_right (length cs) (length vs))
