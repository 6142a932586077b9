-- The token of a part, by its beginning and its decimal.
use Rattle.std.proofs.Common.{zero, suc, ap, ◌≤◌, arith, ◌≡◌, refl, true, false, List, [], ◌∷◌, ℕ, ◌-◌, pos, negsuc, eqb, take, drop}
use Rattle.std.specs.Cmp.Lexicographic.{pointwise}
use lib.IntN.{neg_ℤ}
use borrow.Author.Tests.{eqb-true}
use Rattle.rules.specs.Dimacs.{digits_from, signed, token_of}
use Rattle.rules.proofs.Logic.{clash, test}
use Rattle.dimacs.specs.Parts.{decimal_within}

module _ (v : ℕ) where
  -- a lone minus is no number, as no digit is
  pub minus : (t : List ℕ) → pointwise eqb (take 1 t) (45 ∷ []) ≡ true → token_of v t ≡ signed (λ m. negsuc (m - 1)) (decimal_within 1 v (drop 1 t))
  unfolding digits_from decimal_within
  minus [] p = clash p refl
  minus (b ∷ []) p = test (eqb b 45) (λ q. rw (eqb-true b 45 q)) λ q. clash p (rw q)
  minus (b ∷ c ∷ t) p = test (eqb b 45) (λ q. rw q) λ q. clash p (rw q)

  pub plain : (t : List ℕ) → pointwise eqb t (37 ∷ []) ≡ false → pointwise eqb (take 1 t) (45 ∷ []) ≡ false → token_of v t ≡ signed pos (decimal_within 0 v t)
  unfolding decimal_within
  plain [] p q = refl
  plain (b ∷ []) p q = test (eqb b 37) (λ r. clash (rw r) p) λ r. rw r
  plain (b ∷ c ∷ t) p q = test (eqb b 45) (λ r. clash (rw r) q) λ r. rw r

-- the number that the code negates
pub negated : (m : ℕ) → 1 ≤ m → neg_ℤ (pos m) ≡ negsuc (m - 1)
negated zero l = absurd (omega arith)
negated (suc m) l = ap negsuc (omega arith)
