-- The order 1..n: one number more, its length, and its first numbers.
use mathlib.Core.Path.{◌≡◌, refl, ap, ◌∙◌}
use mathlib.Core.List.{[], ◌∷◌, ◌++◌}
use Prim.Native.Nat.{ℕ, zero, suc, ◌+◌, ◌≤◌}
use native.Mathlib.Omega.{arith}
use lib.ListN.{length, take}
use Rattle.rules.specs.Words.{counting, natural}

counting_more : (v k : ℕ) → counting v (suc k) ≡ counting v k ++ ((v + k) ∷ [])
unfolding counting
counting_more v zero = let e : v + 0 ≡ v = omega arith in rw e
counting_more v (suc k) =
    let e : suc v + k ≡ v + suc k = omega arith in
    ap (λ l. v ∷ l) (counting_more (suc v) k ∙ ap (λ w. counting (suc v) k ++ (w ∷ [])) e)

pub natural-more : (k : ℕ) → natural (suc k) ≡ natural k ++ ((k + 1) ∷ [])
natural-more k = let e : 1 + k ≡ k + 1 = omega arith in counting_more 1 k ∙ ap (λ w. natural k ++ (w ∷ [])) e

counting-length : (v k : ℕ) → length (counting v k) ≡ k
unfolding counting
counting-length v zero = refl
counting-length v (suc k) = ap suc (counting-length (suc v) k)

pub natural-length : (n : ℕ) → length (natural n) ≡ n
natural-length n = counting-length 1 n

counting-first : (v n m : ℕ) → n ≤ m → take n (counting v m) ≡ counting v n
unfolding counting
counting-first v zero m l = refl
counting-first v (suc n) zero l = let w : ⊥ = omega arith in absurd w
counting-first v (suc n) (suc m) l = ap (λ t. v ∷ t) (counting-first (suc v) n m (omega arith))

-- the first n of 1..m are 1..n
pub natural-first : (n m : ℕ) → n ≤ m → take n (natural m) ≡ natural n
natural-first n m l = counting-first 1 n m l
