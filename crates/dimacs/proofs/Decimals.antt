-- Decimals of a part, byte by byte.
use mathlib.Core.Path.{◌≡◌, refl}
use mathlib.Core.Bool.{true, false}
use mathlib.Core.List.{List, [], ◌∷◌}
use mathlib.Core.Option.{none}
use Prim.Native.Nat.{ℕ, ◌+◌, ◌-◌, ◌*◌, ◌<◌, ◌≤◌}
use native.Mathlib.Omega.{arith}
use lib.Dec.{leb}
use lib.ListN.{length, drop, get_or, drop_of_length-le}
use borrow.Author.Tests.{lt-leb, ne_eqb}
use Rattle.std.proofs.lemmas.List.{drop_more}
use Rattle.rules.specs.Dimacs.{is_digit, digits_from, within}
use Rattle.rules.proofs.Logic.{test}
use Rattle.dimacs.specs.Parts.{digits_within, decimal_within}

-- above the bound no more digits help
above : (low high m : ℕ) → high < m → within low high m ≡ none
above low high m l = let e = lt-leb m high l in test (leb low m) (λ p. rw (p, e)) λ p. rw p

pub digits_above : (low high sum : ℕ) (t : List ℕ) → high < sum → digits_within low high sum t ≡ none
unfolding digits_from digits_within
digits_above low high sum [] l = above low high sum l
digits_above low high sum (b ∷ t) l =
    test (is_digit b) (λ p. rw p (digits_above low high (sum * 10 + (b - 48)) t (omega arith))) λ p. rw p

-- one digit more, a byte that is none, and the end
module _ (low high sum : ℕ) (t : List ℕ) (i : ℕ) where
  pub digits_more : i < length t → is_digit (get_or t i 0) ≡ true
      → digits_within low high sum (drop i t) ≡ digits_within low high (sum * 10 + (get_or t i 0 - 48)) (drop (i + 1) t)
  unfolding digits_from digits_within
  digits_more l p = rw (drop_more t i 0 l, p)

  pub digits-bad : i < length t → is_digit (get_or t i 0) ≡ false → digits_within low high sum (drop i t) ≡ none
  unfolding digits_from digits_within
  digits-bad l p = rw (drop_more t i 0 l, p)

  pub digits-end : length t ≤ i → digits_within low high sum (drop i t) ≡ within low high sum
  unfolding digits_from digits_within
  digits-end l = rw (drop_of_length-le t l)

pub ruleset digits = (digits_above, digits_more, digits-bad, digits-end)

-- a decimal has a digit, and no leading zero
module _ (low high : ℕ) where
  pub decimal-empty : (t : List ℕ) → length t ≡ 0 → decimal_within low high t ≡ none
  unfolding decimal_within
  decimal-empty [] l = refl
  decimal-empty (b ∷ t) l = absurd (omega arith)

  pub decimal-zero : (b : ℕ) (t : List ℕ) → b ≡ 48 → 0 < length t → decimal_within low high (b ∷ t) ≡ none
  unfolding decimal_within
  decimal-zero b [] p l = absurd (omega arith)
  decimal-zero b (c ∷ t) p l = rw p

  pub decimal-alone : (b : ℕ) (t : List ℕ) → length t ≡ 0 → decimal_within low high (b ∷ t) ≡ digits_within low high 0 (b ∷ t)
  unfolding decimal_within digits_within
  decimal-alone b [] l = refl
  decimal-alone b (c ∷ t) l = absurd (omega arith)

  pub decimal-digits : (b : ℕ) (t : List ℕ) → (b ≡ 48 → ⊥) → decimal_within low high (b ∷ t) ≡ digits_within low high 0 (b ∷ t)
  unfolding decimal_within digits_within
  decimal-digits b [] p = refl
  decimal-digits b (c ∷ t) p = rw (ne_eqb b 48 p)

pub ruleset decimals = (decimal-empty, decimal-zero, decimal-alone, decimal-digits)
