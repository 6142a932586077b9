-- Sheets against partial settings: what is satisfied is open, what is open further on is open before, and open means satisfied
-- where every variable is fixed.
use mathlib.Core.Path.{◌≡◌, refl, sym, ap, ◌∙◌}
use mathlib.Core.Bool.{Bool, true, false, not, cond, ◌||◌}
use mathlib.Core.List.{List, [], ◌∷◌}
use Prim.Native.Nat.{ℕ, ◌-◌, ◌≤◌}
use lib.Dec.{eqb, leb}
use lib.IntN.{ℤ}
use borrow.Author.Tests.{eqb-true, leb-true}
use Rattle.rules.specs.declared.Row.{Row}
use Rattle.rules.specs.Words.{is_one, with_one, fixes, at_zero, at_one}
use Rattle.rules.specs.Sheets.{variable, positive, is_true, closes, every_clause, satisfies, in_reach}
use Rattle.rules.proofs.Logic.{test, clash, either}
use Rattle.std.proofs.lemmas.Bool.{false_from_ne_true, or_cases, or_left, or_right, and_parts}
use Rattle.rules.proofs.Bits.{bit, bit-set}
use Rattle.sheets.specs.Open.{is_open}
use Rattle.sheets.proofs.Signs.{variable-of}

-- a test that another implies gives no more clauses that pass
module _ (s t : ℤ → Bool) (imp : (z : ℤ) → s z ≡ true → t z ≡ true) where
  met-implied : (a b : Bool) (z : ℤ) → (a ≡ true → b ≡ true) → (a || s z) ≡ true → (b || t z) ≡ true
  met-implied a b z f h = either (or_cases a (s z) h) (λ p. or_left _ (t z) (f p)) (λ p. or_right b _ (imp z p))

  pub implied : (zs : List ℤ) (a b : Bool) → (a ≡ true → b ≡ true) → every_clause s a zs ≡ true → every_clause t b zs ≡ true
  unfolding every_clause
  implied [] a b f h = refl
  implied (z ∷ zs) a b f h =
      test (closes z)
      (λ c. let p = and_parts a (every_clause s false zs) (rw c at h) in rw (c, f p.0) (implied zs false false (λ x. x) p.1))
      (λ c. rw c (implied zs (a || s z) (b || t z) (met-implied a b z f) (rw c at h)))

-- a literal that is true is open, and a literal that is open further on is open before
true-open : (r : Row) (z : ℤ) → is_true r.value z ≡ true → is_open r z ≡ true
true-open r z h = or_right (not (fixes r (variable z))) _ h

set-fixed : (v : ℕ) (r : Row) (w : ℕ) → fixes r w ≡ true → fixes (at_zero v r) w ≡ true
set-fixed v r w h = bit-set (v - 1) (w - 1) r.care ∙ or_right (eqb (v - 1) (w - 1)) _ h

open-before-0 : (v : ℕ) (r : Row) (z : ℤ) → is_open (at_zero v r) z ≡ true → is_open r z ≡ true
open-before-0 v r z h =
    test (fixes r (variable z))
    (λ f. true-open r z (rw (set-fixed v r (variable z) f) at h))
    (λ f. rw f)

-- the bit of another variable stays
other-bit : (v w : ℕ) (x : ℕ) → eqb (v - 1) (w - 1) ≡ false → is_one w (with_one v x) ≡ is_one w x
other-bit v w x e = bit-set (v - 1) (w - 1) x ∙ rw e

other-fixed : (v w : ℕ) (r : Row) → fixes r v ≡ false → fixes r w ≡ true → eqb (v - 1) (w - 1) ≡ false
other-fixed v w r p q = false_from_ne_true _ (λ e. clash q (ap (λ (i : ℕ). bit i r.care) (sym (eqb-true (v - 1) (w - 1) e)) ∙ p))

open-before-1 : (v : ℕ) (r : Row) (z : ℤ) → fixes r v ≡ false → is_open (at_one v r) z ≡ true → is_open r z ≡ true
open-before-1 v r z p h =
    test (fixes r (variable z))
    (λ f.
    true-open r z
    (ap (λ (b : Bool). cond (positive z) b (not b)) (sym (other-bit v (variable z) r.value (other-fixed v (variable z) r p f)))
    ∙ (rw (set-fixed v r (variable z) f) at h)))
    (λ f. rw f)

-- sheets
pub satisfied-open : (zs : List ℤ) (r : Row) → satisfies zs r.value ≡ true → every_clause (is_open r) false zs ≡ true
unfolding satisfies
satisfied-open zs r = implied (is_true r.value) (is_open r) (true-open r) zs false false (λ x. x)

pub open-at_zero : (zs : List ℤ) (v : ℕ) (r : Row) → fixes r v ≡ false → every_clause (is_open (at_zero v r)) false zs ≡ true → every_clause (is_open r) false zs ≡ true
open-at_zero zs v r p = implied (is_open (at_zero v r)) (is_open r) (open-before-0 v r) zs false false (λ x. x)

pub open-at_one : (zs : List ℤ) (v : ℕ) (r : Row) → fixes r v ≡ false → every_clause (is_open (at_one v r)) false zs ≡ true → every_clause (is_open r) false zs ≡ true
open-at_one zs v r p = implied (is_open (at_one v r)) (is_open r) (λ z. open-before-1 v r z p) zs false false (λ x. x)

-- where the row fixes every variable of the sheet
module _ (n : ℕ) (r : Row) (all : (v : ℕ) → 1 ≤ v → v ≤ n → fixes r v ≡ true) where
  fixed-open : (z : ℤ) → closes z ≡ false → leb (variable z) n ≡ true → is_open r z ≡ is_true r.value z
  fixed-open z c l = rw (all (variable z) (variable-of z c) (leb-true (variable z) n l))

  fixed-clauses : (zs : List ℤ) (met : Bool) → in_reach n zs ≡ true → every_clause (is_open r) met zs ≡ every_clause (is_true r.value) met zs
  unfolding every_clause in_reach
  fixed-clauses [] met h = refl
  fixed-clauses (z ∷ zs) met h =
      let p = and_parts (leb (variable z) n) (in_reach n zs) h in
      test (closes z)
      (λ c. rw (c, fixed-clauses zs false p.1))
      (λ c. rw (c, fixed-open z c p.0) (fixed-clauses zs (met || is_true r.value z) p.1))

  pub open-satisfied : (zs : List ℤ) → in_reach n zs ≡ true → every_clause (is_open r) false zs ≡ satisfies zs r.value
  unfolding satisfies
  open-satisfied zs h = fixed-clauses zs false h
