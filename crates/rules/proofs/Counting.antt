-- Generation is complete within as many steps as there are on settings.
use mathlib.Core.Path.{◌≡◌, sym, ap, ◌∙◌, subst}
use mathlib.Core.Bool.{Bool, true, false, not, ◌&&◌}
use mathlib.Core.List.{List, [], ◌∷◌, ◌++◌}
use mathlib.Core.Logic.{◌⊎◌, inl, inr}
use mathlib.Core.Option.{none, some}
use Prim.Native.Nat.{ℕ, zero, suc, ◌+◌, ◌^◌, ◌<◌, ◌≤◌}
use native.Mathlib.Omega.{arith}
use lib.Dec.{eqb}
use borrow.Author.Tests.{eqb-true, eqb-false}
use Rattle.rules.specs.declared.Row.{Row}
use Rattle.rules.specs.Words.{one, in_some}
use Rattle.rules.specs.Method.{next, widen, generated}
use Rattle.rules.proofs.Logic.{test, either, option, clash, some-none}
use Rattle.std.proofs.lemmas.Bool.{and_parts, and_from, or_parts, or_right, false_from_ne_true, not-true, not_from_false}
use Rattle.rules.proofs.Rows.{in_some-append, in_some-one}
use Rattle.rules.proofs.Orders.{IsOrder}
use Rattle.rules.proofs.Generation.{next-is, widened-holds, step-none, step-some}

-- How many numbers below m pass.
unfoldable pub passing : ℕ → (ℕ → Bool) → ℕ
passing zero P = 0
passing (suc m) P = one (P m) + passing m P

-- Where P passes only where Q does, P passes no more often; and less often, where some t below m passes Q alone.
module _ (P Q : ℕ → Bool) where
  passing-le : (m : ℕ) → ((s : ℕ) → s < m → P s ≡ true → Q s ≡ true) → passing m P ≤ passing m Q
  unfolding passing
  passing-le zero h = omega arith
  passing-le (suc m) h =
      let ih = passing-le m (λ s l. h s (omega arith)) in
      test (P m) (λ p. omega (arith, ih, ap one p, ap one (h m (omega arith) p))) (λ p. omega (arith, ih, ap one p))

  passing-lt : (m : ℕ) → ((s : ℕ) → s < m → P s ≡ true → Q s ≡ true) → (t : ℕ) → t < m → P t ≡ false → Q t ≡ true → passing m P < passing m Q
  unfolding passing
  passing-lt zero h t l p q = let z : ⊥ = omega arith in absurd z
  passing-lt (suc m) h t l p q =
      test (eqb t m)
      (λ e. let d = eqb-true t m e in
      omega (arith, passing-le m (λ s k. h s (omega arith)), ap one (subst (λ (x : ℕ). P x ≡ false) d p), ap one (subst (λ (x : ℕ). Q x ≡ true) d q)))
      (λ e. let d = eqb-false t m e in
      let ih = passing-lt m (λ s k. h s (omega arith)) t (omega arith) p q in
      test (P m) (λ a. omega (arith, ih, ap one a, ap one (h m (omega arith) a))) (λ a. omega (arith, ih, ap one a)))

module _ (n : ℕ) (order : List ℕ) (o : IsOrder n order) (on off : ℕ → Bool) where
  abbrev unheld : List Row → ℕ → Bool
  unheld rows s = on s && not (in_some rows s)

  abbrev rows_at : ℕ → List Row
  rows_at k = generated order on off k

  -- After k steps none is left, or k settings fewer are left to be held.
  abbrev Falls : ℕ → Type 0
  Falls k = (next order on (rows_at k) ≡ none) ⊎ (passing (2 ^ n) (unheld (rows_at k)) + k ≤ passing (2 ^ n) on)

  fewer : (rows : List Row) (s : ℕ) → next order on rows ≡ some s
      → passing (2 ^ n) (unheld (rows ++ (widen order off s ∷ []))) < passing (2 ^ n) (unheld rows)
  fewer rows s e =
      let p = next-is n order o on off rows s e in
      let more : List Row = rows ++ (widen order off s ∷ []) in
      passing-lt (unheld more) (unheld rows) (2 ^ n)
      (λ t l q. let a = and_parts (on t) (not (in_some more t)) q in
      let b = or_parts (in_some rows t) (in_some (widen order off s ∷ []) t) (sym (in_some-append rows (widen order off s ∷ []) t) ∙ not-true (in_some more t) a.1) in
      and_from _ _ a.0 (not_from_false _ b.0))
      s p.0
      (false_from_ne_true _ (λ q. let a = and_parts (on s) (not (in_some more s)) q in
      clash (in_some-append rows (widen order off s ∷ []) s ∙ or_right (in_some rows s) _ (in_some-one (widen order off s) s ∙ widened-holds n order o on off s p.0))
      (not-true (in_some more s) a.1)))
      (and_from _ _ p.1 (not_from_false _ p.2))

  falls : (k : ℕ) → Falls k
  falls zero = inr (omega (arith, passing-le (unheld (rows_at 0)) on (2 ^ n) (λ s l q. (and_parts (on s) (not (in_some (rows_at 0) s)) q).0)))
  falls (suc k) =
      let ih = falls k in
      option (next order on (rows_at k))
      (λ e. inl (ap (next order on) (step-none order on off k e) ∙ e))
      (λ s e. either ih (λ q. some-none e q) (λ q. inr (rw (step-some order on off k s e) (omega (arith, fewer (rows_at k) s e)))))

  pub complete-within : next order on (rows_at (passing (2 ^ n) on)) ≡ none
  complete-within =
      let m : ℕ = passing (2 ^ n) on in
      option (next order on (rows_at m)) (λ e. e)
      (λ s e. either (falls m) (λ q. some-none e q) (λ q. let z : ⊥ = omega (arith, fewer (rows_at m) s e) in absurd z))
