-- The smallest setting is the smallest: it passes, lies in the row, and none that does so is smaller; and none means none.
use mathlib.Core.Path.{◌≡◌, refl, sym, ap, ◌∙◌, subst}
use mathlib.Core.Bool.{Bool, true, false}
use mathlib.Core.List.{List, [], ◌∷◌}
use mathlib.Core.Logic.{◌↔◌}
use mathlib.Core.Option.{Option, none, some}
use Prim.Native.Nat.{ℕ, ◌-◌, ◌^◌, ◌<◌, ◌≤◌}
use native.Mathlib.Omega.{arith}
use lib.Dec.{eqb, ltb}
use borrow.Author.Tests.{eqb-true, ltb-true, ltb-false}
use Rattle.rules.specs.declared.Row.{Row}
use Rattle.rules.specs.Words.{is_one, before, smaller, holds, is_row, dashes, at_zero, at_one}
use Rattle.rules.specs.Search.{found, smallest, holds_some, not_below}
use Rattle.rules.proofs.Logic.{test, either, option, clash}
use Rattle.std.proofs.lemmas.Bool.{false_from_ne_true, or_cases}
use Rattle.rules.proofs.Bits.{bit, bit-ext, bit_high, bit_below}
use Rattle.rules.proofs.Rows.{dashes-row}
use Rattle.rules.proofs.Orders.{has, IsOrder}
use Rattle.rules.proofs.Fixed.{Under, row_under, row-high, fixed-under}
use Rattle.rules.proofs.Reach.{smallest-pass, smallest-try, or_else-some, Reach, pass, turn, sound, missed, same}
use Rattle.rules.proofs.Reach.{reach-held, reach-kept, reach-in, pass-bit, turn-bit}

before_same : (b c later : Bool) → b ≡ c → before b c later ≡ later
before_same true true later e = refl
before_same true false later e = clash refl e
before_same false true later e = clash refl (sym e)
before_same false false later e = refl

-- what passes is not smaller than what was found
least : (P : ℕ → Bool) (vs : List ℕ) (r : Row) → Under r → (t u : ℕ) → smallest P vs r ≡ some t → Reach vs r u → P u ≡ true → smaller vs u t ≡ false
unfolding smaller
least P [] r w t u h s p = refl
least P (v ∷ vs) r w t u h (pass f s) p =
    let e : smallest P vs r ≡ some t = sym (smallest-pass P v vs r f) ∙ h in
    before_same (is_one v u) (is_one v t) (smaller vs u t) (pass-bit v vs r u w f s ∙ sym (pass-bit v vs r t w f (sound P vs r t e).1))
    ∙ least P vs r w t u e s p
least P (v ∷ vs) r w t u h (turn f false s) p =
    either (or_else-some (smallest P vs (at_zero v r)) (smallest P vs (at_one v r)) t (sym (smallest-try P v vs r f) ∙ h))
    (λ e. rw (turn-bit false v vs r u w f s, turn-bit false v vs r t w f (sound P vs (at_zero v r) t e).1)
    (least P vs (at_zero v r) (fixed-under false v r w f) t u e s p))
    (λ e. clash p (missed P vs (at_zero v r) u e.0 s))
least P (v ∷ vs) r w t u h (turn f true s) p =
    either (or_else-some (smallest P vs (at_zero v r)) (smallest P vs (at_one v r)) t (sym (smallest-try P v vs r f) ∙ h))
    (λ e. rw (turn-bit true v vs r u w f s, turn-bit false v vs r t w f (sound P vs (at_zero v r) t e).1))
    (λ e. rw (turn-bit true v vs r u w f s, turn-bit true v vs r t w f (sound P vs (at_one v r) t e.1).1)
    (least P vs (at_one v r) (fixed-under true v r w f) t u e.1 s p))

-- two settings of which neither is smaller are alike in every variable of the order
neither : (b c later other : Bool) → before b c later ≡ false → before c b other ≡ false → (b ≡ c) × (later ≡ false) × (other ≡ false)
neither true true later other p q = (refl, p, q)
neither true false later other p q = clash refl q
neither false true later other p q = clash refl p
neither false false later other p q = (refl, p, q)

alike : (vs : List ℕ) (s t : ℕ) → smaller vs s t ≡ false → smaller vs t s ≡ false → (i : ℕ) → has i vs ≡ true → bit i s ≡ bit i t
unfolding smaller has
alike [] s t p q i h = clash h refl
alike (v ∷ vs) s t p q i h =
    let (e, p', q') = neither (is_one v s) (is_one v t) (smaller vs s t) (smaller vs t s) p q in
    either (or_cases (eqb (v - 1) i) (has i vs) h) (λ k. subst (λ j. bit j s ≡ bit j t) (eqb-true (v - 1) i k) e) (alike vs s t p' q' i)

-- A setting is the smallest one of a row that passes: it passes, lies in the row, and no other that does is smaller in the order.
pub record Least (n : ℕ) (order : List ℕ) (passes : ℕ → Bool) (r : Row) (s : ℕ) : Type 0 where
  pub below : s < 2 ^ n
  pub held : holds r s ≡ true
  pub passed : passes s ≡ true
  pub least : (u : ℕ) → u < 2 ^ n → holds r u ≡ true → passes u ≡ true → smaller order u s ≡ false

module _ (n : ℕ) (order : List ℕ) (o : IsOrder n order) where
  -- no variable of the order has a bit from n up
  outside : (i : ℕ) → n ≤ i → has i order ≡ false
  outside i l = false_from_ne_true _ (λ h. let m : i < n = o.inside i h in omega arith)

  module _ (r : Row) (is_row : is_row n r ≡ true) where
    -- over the whole order the search can come to the settings of the row
    pub reach-all : (t : ℕ) → t < 2 ^ n → holds r t ≡ true → Reach order r t
    reach-all t l h = reach-in order r t (row_under n r is_row) h (λ i a. test (ltb i n)
        (λ q. clash (o.every i (ltb-true i n q)) a)
        (λ q. let m : n ≤ i = ltb-false i n q in bit_high n i t l m ∙ sym (row-high n r is_row i m)))

    pub reach-below : (t : ℕ) → Reach order r t → t < 2 ^ n
    reach-below t s = bit_below n t (λ i l. reach-kept order r t i s (outside i l) ∙ row-high n r is_row i l)

  module _ (P : ℕ → Bool) (r : Row) (is_row : is_row n r ≡ true) where
    pub smallest-passes : (t : ℕ) → smallest P order r ≡ some t → P t ≡ true
    smallest-passes t e = (sound P order r t e).0

    pub smallest-held : (t : ℕ) → smallest P order r ≡ some t → holds r t ≡ true
    smallest-held t e = reach-held order r t (row_under n r is_row) (sound P order r t e).1

    pub smallest-below : (t : ℕ) → smallest P order r ≡ some t → t < 2 ^ n
    smallest-below t e = reach-below r is_row t (sound P order r t e).1

    pub smallest-none : smallest P order r ≡ none → (t : ℕ) → t < 2 ^ n → holds r t ≡ true → P t ≡ false
    smallest-none e t l h = missed P order r t e (reach-all r is_row t l h)

    pub smallest-least : (t : ℕ) → smallest P order r ≡ some t → (u : ℕ) → u < 2 ^ n → holds r u ≡ true → P u ≡ true → smaller order u t ≡ false
    smallest-least t e u l h p = least P order r (row_under n r is_row) t u e (reach-all r is_row u l h) p

    -- what is found is the smallest, and the smallest is found: there is one
    found-is : (t : ℕ) → smallest P order r ≡ some t → Least n order P r t
    found-is t e = record { below = smallest-below t e; held = smallest-held t e; passed = smallest-passes t e; least = smallest-least t e }

    one-smallest : (s t : ℕ) → Least n order P r s → Least n order P r t → s ≡ t
    one-smallest s t a b = bit-ext (λ i. test (ltb i n)
        (λ q. alike order s t (b.least s a.below a.held a.passed) (a.least t b.below b.held b.passed) i (o.every i (ltb-true i n q)))
        (λ q. bit_high n i s a.below (ltb-false i n q) ∙ sym (bit_high n i t b.below (ltb-false i n q))))

    is_found : (t : ℕ) → Least n order P r t → smallest P order r ≡ some t
    is_found t m = option (smallest P order r)
        (λ q. clash m.passed (smallest-none q t m.below m.held))
        (λ u q. q ∙ ap {B = Option ℕ} some (one-smallest u t (found-is u q) m))

    pub found-smallest : (t : ℕ) → (smallest P order r ≡ some t) ↔ Least n order P r t
    found-smallest t = (found-is t, is_found t)

    -- a row holds a setting that passes, or none
    pub some-yes : holds_some P order r ≡ true → (t : ℕ) × (t < 2 ^ n) × (holds r t ≡ true) × (P t ≡ true)
    some-yes e = option (smallest P order r)
        (λ q. clash e (ap found q))
        (λ t q. (t, smallest-below t q, smallest-held t q, smallest-passes t q))

    pub some-no : holds_some P order r ≡ false → (t : ℕ) → t < 2 ^ n → holds r t ≡ true → P t ≡ false
    some-no e t l h = option (smallest P order r)
        (λ q. smallest-none q t l h)
        (λ u q. clash (ap found q) e)

    -- the answer depends only on which settings of the row pass
    pub smallest-same : (Q : ℕ → Bool) → ((t : ℕ) → t < 2 ^ n → holds r t ≡ true → P t ≡ Q t) → smallest P order r ≡ smallest Q order r
    smallest-same Q h = same P Q order r (λ t s. h t (reach-below r is_row t s) (reach-held order r t (row_under n r is_row) s))

  -- where fewer settings pass than those whose smallest is s, the search may resume at s
  pub resume : (P Q : ℕ → Bool) (s : ℕ) → ((t : ℕ) → Q t ≡ true → P t ≡ true) → smallest P order dashes ≡ some s
      → smallest Q order dashes ≡ smallest (not_below order s Q) order dashes
  resume P Q s fewer e = smallest-same Q dashes (dashes-row n) (not_below order s Q) (λ t l h. test (Q t)
      (λ q. rw (q, smallest-least P dashes (dashes-row n) s e t l h (fewer t q)))
      (λ q. rw q))
