-- Partial settings that may still hold a good setting: what is good is live, what is live further on is live before, and live
-- means good where every variable is fixed.
use mathlib.Core.Path.{◌≡◌, sym, ◌∙◌}
use mathlib.Core.Bool.{true, false, not, ◌&&◌}
use mathlib.Core.List.{List}
use mathlib.Core.Option.{none}
use Prim.Native.Nat.{ℕ, ◌-◌, ◌≤◌, ◌<◌}
use native.Mathlib.Omega.{arith}
use lib.IntN.{ℤ}
use Rattle.rules.specs.declared.Row.{Row}
use Rattle.rules.specs.Words.{fixes, at_zero, at_one, in_some}
use Rattle.rules.specs.Sheets.{every_clause, satisfies, in_reach}
use Rattle.rules.specs.Search.{smallest}
use Rattle.rules.proofs.Bits.{bit}
use Rattle.rules.proofs.Cut.{cut}
use Rattle.rules.proofs.Logic.{clash}
use Rattle.std.proofs.lemmas.Bool.{and_parts, and_from, not-true, not_from_false, false_from_ne_true}
use Rattle.sheets.specs.Open.{is_open}
use Rattle.sheets.proofs.Openness.{satisfied-open, open-at_zero, open-at_one, open-satisfied}
use Rattle.search.specs.Question.{good, covers_some, live, cares_within}
use Rattle.search.proofs.Covers.{some-at_zero, some-at_one, some-held, held-some}

-- live is what a search may be cut by
module _ (a b : List ℤ) (rows : List Row) where
  parts : (r : Row) → live a b rows r ≡ true
      → (every_clause (is_open r) false a ≡ true) × (every_clause (is_open r) false b ≡ true) × (covers_some r rows ≡ false)
  unfolding live
  parts r h =
      let p = and_parts (every_clause (is_open r) false a) (every_clause (is_open r) false b && not (covers_some r rows)) h in
      let q = and_parts (every_clause (is_open r) false b) (not (covers_some r rows)) p.1 in
      (p.0, q.0, not-true (covers_some r rows) q.1)

  joined : (r : Row) → every_clause (is_open r) false a ≡ true → every_clause (is_open r) false b ≡ true → covers_some r rows ≡ false
      → live a b rows r ≡ true
  unfolding live
  joined r p q n = and_from _ _ p (and_from _ _ q (not_from_false _ n))

  pub good-live : (r : Row) → good a b rows r.value ≡ true → live a b rows r ≡ true
  unfolding good
  good-live r h =
      let p = and_parts (satisfies a r.value) (satisfies b r.value && not (in_some rows r.value)) h in
      let q = and_parts (satisfies b r.value) (not (in_some rows r.value)) p.1 in
      joined r (satisfied-open a r p.0) (satisfied-open b r q.0) (false_from_ne_true _ (λ s. clash (some-held r rows s) (not-true (in_some rows r.value) q.1)))

  pub live-at_zero : (v : ℕ) (r : Row) → fixes r v ≡ false → live a b rows (at_zero v r) ≡ true → live a b rows r ≡ true
  live-at_zero v r f h =
      let p = parts (at_zero v r) h in
      joined r (open-at_zero a v r f p.0) (open-at_zero b v r f p.1) (false_from_ne_true _ (λ s. clash (some-at_zero v r rows s) p.2))

  pub live-at_one : (v : ℕ) (r : Row) → fixes r v ≡ false → live a b rows (at_one v r) ≡ true → live a b rows r ≡ true
  live-at_one v r f h =
      let p = parts (at_one v r) h in
      joined r (open-at_one a v r f p.0) (open-at_one b v r f p.1) (false_from_ne_true _ (λ s. clash (some-at_one v r f rows s) p.2))

  pub live-good : (n : ℕ) (r : Row) → ((i : ℕ) → i < n → bit i r.care ≡ true) → in_reach n a ≡ true → in_reach n b ≡ true → cares_within n rows ≡ true
      → live a b rows r ≡ true → good a b rows r.value ≡ true
  unfolding good
  live-good n r all ra rb l h =
      let p = parts r h in
      let every : (v : ℕ) → 1 ≤ v → v ≤ n → fixes r v ≡ true = λ v m k. all (v - 1) (omega arith) in
      and_from _ _ (sym (open-satisfied n r every a ra) ∙ p.0)
      (and_from _ _ (sym (open-satisfied n r every b rb) ∙ p.1) (not_from_false _ (false_from_ne_true _ (λ s. clash (held-some n r all rows l s) p.2))))

  -- in a row that is not live nothing is good
  pub left : (vs : List ℕ) (r : Row) → live a b rows r ≡ false → smallest (good a b rows) vs r ≡ none
  left = cut (good a b rows) (live a b rows) good-live live-at_zero live-at_one
