-- Rows that hold all of a partial setting: they hold its value, and all of what fixes more; and where every variable is fixed,
-- holding the value is enough.
use mathlib.Core.Path.{◌≡◌, sym, ap, ◌∙◌}
use mathlib.Core.Bool.{Bool, true, false, ◌&&◌, and-false}
use mathlib.Core.List.{List, [], ◌∷◌}
use Prim.Native.Nat.{ℕ, ◌-◌, ◌^◌, ◌<◌}
use lib.Bits.{bit_and}
use lib.Dec.{eqb, ltb}
use borrow.Author.Tests.{eqb-true, eq-eqb, ltb-true, ltb-false}
use Rattle.rules.specs.declared.Row.{Row}
use Rattle.rules.specs.Words.{fits, with_one, holds, fixes, at_zero, at_one, in_some}
use Rattle.rules.proofs.Logic.{test, either, clash}
use Rattle.std.proofs.lemmas.Bool.{false_from_ne_true, and_parts, and_from, or_cases, or_left, or_right}
use Rattle.rules.proofs.Bits.{bit, bit-and, bit-set, bit-ext, bit_high}
use Rattle.rules.proofs.Rows.{holds-bits, bits-holds}
use Rattle.rules.proofs.Fixed.{own-bit, other-value}
use Rattle.search.specs.Question.{covers, covers_some, cares_within}

-- one word's bits all lie in another
abbrev Within : ℕ → ℕ → Type 0
Within x y = (i : ℕ) → bit i x ≡ true → bit i y ≡ true

within-and : (x y : ℕ) → Within x y → eqb (bit_and x y) x ≡ true
within-and x y w =
    eq-eqb (bit_and x y) x
    (bit-ext (λ i. bit-and i x y ∙ test (bit i x) (λ p. rw (p, w i p)) (λ p. rw p)))

and-within : (x y : ℕ) → eqb (bit_and x y) x ≡ true → Within x y
and-within x y h i p =
    (and_parts (bit i x) (bit i y) (sym (bit-and i x y) ∙ ap (bit i) (eqb-true (bit_and x y) x h) ∙ p)).1

module _ (r c : Row) where
  held : covers r c ≡ true → holds c r.value ≡ true
  held h = (and_parts (eqb (bit_and c.care r.care) c.care) (holds c r.value) h).1

  cared : covers r c ≡ true → Within c.care r.care
  cared h = and-within c.care r.care (and_parts (eqb (bit_and c.care r.care) c.care) (holds c r.value) h).0

  cared-more : (v : ℕ) → covers r c ≡ true → Within c.care (with_one v r.care)
  cared-more v h i p = bit-set (v - 1) i r.care ∙ or_right (eqb (v - 1) i) _ (cared h i p)

  covers-at_zero : (v : ℕ) → covers r c ≡ true → covers (at_zero v r) c ≡ true
  covers-at_zero v h = and_from _ _ (within-and c.care (with_one v r.care) (cared-more v h)) (held h)

  -- the row does not care for a variable that is not fixed
  held-at_one : (v : ℕ) → fixes r v ≡ false → covers r c ≡ true → holds c (with_one v r.value) ≡ true
  held-at_one v f h =
      bits-holds c (with_one v r.value) (λ i. test (bit i c.care)
      (λ p. ap (λ (b : Bool). b && bit i c.care) (other-value true v r i (false_from_ne_true _ (λ q. clash (cared h i p) (own-bit v i r.care f q))))
      ∙ holds-bits c r.value (held h) i)
      (λ p. rw (p, and-false (bit i (with_one v r.value))) (rw (p, and-false (bit i r.value)) at (holds-bits c r.value (held h) i))))

  covers-at_one : (v : ℕ) → fixes r v ≡ false → covers r c ≡ true → covers (at_one v r) c ≡ true
  covers-at_one v f h = and_from _ _ (within-and c.care (with_one v r.care) (cared-more v h)) (held-at_one v f h)

-- where every variable of the row c is fixed
held-covers : (n : ℕ) (r c : Row) → fits n c.care ≡ true → ((i : ℕ) → i < n → bit i r.care ≡ true) → holds c r.value ≡ true → covers r c ≡ true
held-covers n r c l all h =
    and_from _ _
    (within-and c.care r.care (λ i p. test (ltb i n)
    (λ q. all i (ltb-true i n q))
    (λ q. clash p (bit_high n i c.care (ltb-true c.care (2 ^ n) l) (ltb-false i n q)))))
    h

-- the same of some row of a list
some_more : (r s : Row) → ((c : Row) → covers r c ≡ true → covers s c ≡ true) → (rows : List Row) → covers_some r rows ≡ true → covers_some s rows ≡ true
unfolding covers_some
some_more r s i [] h = h
some_more r s i (c ∷ rows) h =
    either (or_cases (covers r c) (covers_some r rows) h)
    (λ p. or_left _ (covers_some s rows) (i c p))
    (λ p. or_right (covers s c) _ (some_more r s i rows p))

pub some-at_zero : (v : ℕ) (r : Row) (rows : List Row) → covers_some r rows ≡ true → covers_some (at_zero v r) rows ≡ true
some-at_zero v r = some_more r (at_zero v r) (λ c. covers-at_zero r c v)

pub some-at_one : (v : ℕ) (r : Row) → fixes r v ≡ false → (rows : List Row) → covers_some r rows ≡ true → covers_some (at_one v r) rows ≡ true
some-at_one v r f = some_more r (at_one v r) (λ c. covers-at_one r c v f)

pub some-held : (r : Row) (rows : List Row) → covers_some r rows ≡ true → in_some rows r.value ≡ true
unfolding covers_some in_some
some-held r [] h = h
some-held r (c ∷ rows) h =
    either (or_cases (covers r c) (covers_some r rows) h)
    (λ p. or_left _ (in_some rows r.value) (held r c p))
    (λ p. or_right (holds c r.value) _ (some-held r rows p))

pub held-some : (n : ℕ) (r : Row) → ((i : ℕ) → i < n → bit i r.care ≡ true) → (rows : List Row) → cares_within n rows ≡ true
    → in_some rows r.value ≡ true → covers_some r rows ≡ true
unfolding covers_some in_some cares_within
held-some n r all [] l h = h
held-some n r all (c ∷ rows) l h =
    let k = and_parts (fits n c.care) (cares_within n rows) l in
    either (or_cases (holds c r.value) (in_some rows r.value) h)
    (λ p. or_left _ (covers_some r rows) (held-covers n r c k.0 all p))
    (λ p. or_right (covers r c) _ (held-some n r all rows k.1 p))
