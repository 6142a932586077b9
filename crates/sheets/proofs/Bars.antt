-- A setting lies in a barred row exactly if it does not satisfy the sheet.
use mathlib.Core.Path.{◌≡◌, refl, sym, ap, ◌∙◌}
use mathlib.Core.Bool.{Bool, true, false, not, cond, ◌&&◌, ◌||◌, not-not}
use mathlib.Core.List.{List, [], ◌∷◌}
use Prim.Native.Nat.{ℕ, ◌+◌, ◌-◌, ◌≤◌}
use native.Mathlib.Omega.{arith}
use lib.Dec.{leb}
use lib.IntN.{ℤ}
use lib.ListN.{length}
use borrow.Author.Tests.{leb-true}
use Rattle.std.specs.Prelude.{Option, Some, None, IfSome}
use Rattle.rules.specs.declared.Row.{Row}
use Rattle.rules.specs.Words.{is_one, holds, is_row, fixes, in_some, fixed_at}
use Rattle.rules.specs.Sheets.{variable, positive, is_true, closes, every_clause, satisfies, clauses, in_reach}
use Rattle.rules.specs.Calls.{are_rows}
use Rattle.rules.proofs.Logic.{test, both_ways}
use Rattle.std.proofs.lemmas.Bool.{and_parts, and_from, not-true, not_from_false}
use Rattle.rules.proofs.Bits.{bit-zero}
use Rattle.rules.proofs.Rows.{dashes-holds, dashes-row, at_zero-row, at_one-row}
use Rattle.rules.proofs.Fixed.{Under, held-value, fixed-under, fixed-says, fixed_held, fixed-holds}
use Rattle.sheets.specs.Barred.{no_literals, with_literal, kept, barred_from, barred}
use Rattle.sheets.proofs.Signs.{variable-of}

-- some literal read so far is true at the setting
abbrev met_at : Option Row → ℕ → Bool
met_at None s = true
met_at (Some r) s = not (holds r s)

-- a literal is false where its variable has the other value
false-at : (p one : Bool) → cond p one (not one) ≡ false → one ≡ not p
false-at true one h = h
false-at false true h = refl
false-at false false h = sym h

at-false : (p one : Bool) → one ≡ not p → cond p one (not one) ≡ false
at-false true one h = h
at-false false one h = rw h

-- laws of tests
not-and-not : (h t : Bool) → not (h && not t) ≡ (not h || t)
not-and-not true t = not-not t
not-and-not false t = refl

not-and : (a b : Bool) → not (a && b) ≡ (not a || not b)
not-and true b = refl
not-and false b = refl

module _ (r : Row) (z : ℤ) (u : Under r) where
  -- a variable that is not fixed yet
  dashed-holds : fixes r (variable z) ≡ false → (s : ℕ) → holds (fixed_at (not (positive z)) (variable z) r) s ≡ (holds r s && not (is_true s z))
  dashed-holds f s =
      let b = not (positive z) in
      let v = variable z in
      both_ways (holds (fixed_at b v r) s) (holds r s && not (is_true s z))
      (λ h. and_from _ _ (fixed_held b v r u f s h) (not_from_false _ (at-false (positive z) (is_one v s) (fixed-says b v r u f s h))))
      (λ h.
      let p = and_parts (holds r s) (not (is_true s z)) h in
      fixed-holds b v r u f s p.0 (false-at (positive z) (is_one v s) (not-true (is_true s z) p.1)))

  dashed-met : fixes r (variable z) ≡ false → (s : ℕ) → met_at (with_literal z (Some r)) s ≡ (met_at (Some r) s || is_true s z)
  dashed-met f s = rw f (ap not (dashed-holds f s) ∙ not-and-not (holds r s) (is_true s z))

  -- a variable that is fixed already: where the row holds the setting, the literal is true at both or at neither
  fixed-true : fixes r (variable z) ≡ true → (s : ℕ) → holds r s ≡ true → is_true s z ≡ is_true r.value z
  fixed-true f s h = ap (λ (b : Bool). cond (positive z) b (not b)) (held-value r s h (variable z - 1) f)

  fixed-met : fixes r (variable z) ≡ true → (s : ℕ) → met_at (with_literal z (Some r)) s ≡ (met_at (Some r) s || is_true s z)
  fixed-met f s =
      test (is_true r.value z)
      (λ t. rw (f, t) (sym (test (holds r s) (λ h. rw h (fixed-true f s h ∙ t)) (λ h. rw h))))
      (λ t. rw (f, t) (test (holds r s) (λ h. rw h (sym (fixed-true f s h ∙ t))) (λ h. rw h)))

  row-met : (s : ℕ) → met_at (with_literal z (Some r)) s ≡ (met_at (Some r) s || is_true s z)
  row-met s = test (fixes r (variable z)) (λ f. fixed-met f s) (λ f. dashed-met f s)

  row-under : IfSome (with_literal z (Some r)) Under
  row-under =
      test (fixes r (variable z))
      (λ f. test (is_true r.value z) (λ t. rw (f, t) tt) (λ t. rw (f, t) u))
      (λ f. rw f (fixed-under (not (positive z)) (variable z) r u f))

literal-met : (c : Option Row) (z : ℤ) → IfSome c Under → (s : ℕ) → met_at (with_literal z c) s ≡ (met_at c s || is_true s z)
literal-met None z u s = refl
literal-met (Some r) z u s = row-met r z u s

literal-under : (c : Option Row) (z : ℤ) → IfSome c Under → IfSome (with_literal z c) Under
literal-under None z u = tt
literal-under (Some r) z u = row-under r z u

-- a setting lies in the row of a closed clause exactly if the clause is not met
kept-is : (c : Option Row) (rows : List Row) (s : ℕ) → in_some (kept c rows) s ≡ (not (met_at c s) || in_some rows s)
unfolding in_some
kept-is None rows s = refl
kept-is (Some r) rows s = rw (not-not (holds r s))

from_is : (sheet : List ℤ) (c : Option Row) → IfSome c Under → (s : ℕ) → in_some (barred_from c sheet) s ≡ not (every_clause (is_true s) (met_at c s) sheet)
unfolding in_some barred_from every_clause
from_is [] c u s = refl
from_is (z ∷ zs) c u s =
    test (closes z)
    (λ e.
    rw e
    (kept-is c (barred_from no_literals zs) s
    ∙ ap (λ (b : Bool). not (met_at c s) || b) (from_is zs no_literals (λ i h. bit-zero i) s ∙ ap (λ (b : Bool). not (every_clause (is_true s) (not b) zs)) (dashes-holds s))
    ∙ sym (not-and (met_at c s) (every_clause (is_true s) false zs))))
    (λ e. rw e (from_is zs (with_literal z c) (literal-under c z u) s ∙ ap (λ (b : Bool). not (every_clause (is_true s) b zs)) (literal-met c z u s)))

pub barred-is : (sheet : List ℤ) (s : ℕ) → in_some (barred sheet) s ≡ not (satisfies sheet s)
unfolding satisfies
barred-is sheet s =
    from_is sheet no_literals (λ i h. bit-zero i) s ∙ ap (λ (b : Bool). not (every_clause (is_true s) (not b) sheet)) (dashes-holds s)

-- at most one row a clause
kept-length : (c : Option Row) (rows : List Row) → length (kept c rows) ≤ 1 + length rows
kept-length None rows = omega arith
kept-length (Some r) rows = omega arith

from-length : (sheet : List ℤ) (c : Option Row) → length (barred_from c sheet) ≤ clauses sheet
unfolding barred_from clauses
from-length [] c = omega arith
from-length (z ∷ zs) c =
    let l = from-length zs no_literals in
    let m = from-length zs (with_literal z c) in
    let k = kept-length c (barred_from no_literals zs) in
    test (closes z) (λ e. rw e (omega arith)) (λ e. rw e (omega arith))

pub barred-length : (sheet : List ℤ) → length (barred sheet) ≤ clauses sheet
barred-length sheet = from-length sheet no_literals

-- rows of n inputs, where every number lies in -n..n
module _ (n : ℕ) where
  abbrev HasRow : Option Row → Type 0
  HasRow c = IfSome c (λ r. is_row n r ≡ true)

  literal-row : (c : Option Row) (z : ℤ) → HasRow c → 1 ≤ variable z → variable z ≤ n → HasRow (with_literal z c)
  literal-row None z r l h = tt
  literal-row (Some r) z i l h =
      test (fixes r (variable z))
      (λ f. test (is_true r.value z) (λ t. rw (f, t) tt) (λ t. rw (f, t) i))
      (λ f. test (positive z) (λ p. rw (f, p) (at_zero-row n (variable z) r l h i)) (λ p. rw (f, p) (at_one-row n (variable z) r l h i)))

  kept-rows : (c : Option Row) (rows : List Row) → HasRow c → are_rows n rows ≡ true → are_rows n (kept c rows) ≡ true
  unfolding are_rows
  kept-rows None rows i k = k
  kept-rows (Some r) rows i k = and_from _ _ i k

  from-rows : (sheet : List ℤ) (c : Option Row) → in_reach n sheet ≡ true → HasRow c → are_rows n (barred_from c sheet) ≡ true
  unfolding barred_from in_reach are_rows
  from-rows [] c h r = refl
  from-rows (z ∷ zs) c h r =
      let p = and_parts (leb (variable z) n) (in_reach n zs) h in
      test (closes z)
      (λ e. rw e (kept-rows c (barred_from no_literals zs) r (from-rows zs no_literals p.1 (dashes-row n))))
      (λ e. rw e (from-rows zs (with_literal z c) p.1 (literal-row c z r (variable-of z e) (leb-true (variable z) n p.0))))

  pub barred-rows : (sheet : List ℤ) → in_reach n sheet ≡ true → are_rows n (barred sheet) ≡ true
  barred-rows sheet h = from-rows sheet no_literals h (dashes-row n)
