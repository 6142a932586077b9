-- Variables that the row fixes are passed: what is left to find stays.
use mathlib.Core.Path.{◌≡◌, refl, sym, ap, subst, ◌∙◌}
use mathlib.Core.Bool.{Bool, true, false}
use mathlib.Core.List.{List}
use mathlib.Core.Option.{Option, none, some}
use Prim.Native.Nat.{ℕ, zero, suc, ◌+◌, ◌-◌, ◌≤◌, ◌<◌}
use native.Mathlib.Omega.{arith}
use lib.Dec.{ltb}
use lib.ListN.{length, get_or, drop}
use borrow.Author.Tests.{ltb-true, ltb-false}
use Rattle.rules.specs.declared.Row.{Row}
use Rattle.rules.specs.Words.{is_one, at_zero, at_one, fixed_at}
use Rattle.rules.specs.Search.{smallest}
use Rattle.rules.proofs.Logic.{test}
use Rattle.search.specs.Question.{Passed, Skips}
use Rattle.search.proofs.Places.{passed-fixed, passed-next}
use Rattle.search.proofs.Steps.{passes, at-end, zero-found, with-one}

-- the variables from a place up to another are fixed
abbrev Fixed : List ℕ → ℕ → ℕ → ℕ → Type 0
Fixed order care place at = (k : ℕ) → place ≤ k → k < at → (k < length order) × (is_one (get_or order k 0) care ≡ true)

abbrev pub Passing : List ℕ → ℕ → ℕ → ℕ → Type 0
Passing order care place at = (place ≤ at) × Fixed order care place at

module _ (order : List ℕ) (care place : ℕ) where
  pub passing-none : Passing order care place place
  passing-none = (omega arith, λ k l m. let z : ⊥ = omega arith in absurd z)

  module _ (at : ℕ) (h : Passing order care place at) where
    pub passing-more : at < length order → (v : ℕ) → v ≡ get_or order at 0 → is_one v care ≡ true → Passing order care place (at + 1)
    passing-more l v e f = (
      (let g = h.0 in omega arith),
      λ k m n. test (ltb k at)
          (λ p. h.1 k m (ltb-true k at p))
          (λ p. let q : at ≤ k = ltb-false k at p in
          let s : at ≡ k = omega arith in
          subst (λ (i : ℕ). (i < length order) × (is_one (get_or order i 0) care ≡ true)) s (l, ap (λ (w : ℕ). is_one w care) (sym e) ∙ f)),
    )

    pub passing-stops : (v : ℕ) → v ≡ get_or order at 0 → is_one v care ≡ false → Skips order place care at
    passing-stops v e f = record { onward = h.0; fixed = h.1; stops = λ l. ap (λ (w : ℕ). is_one w care) (sym e) ∙ f }

    pub passing-end : place ≤ length order → length order ≤ at → Skips order place care (length order)
    passing-end g l = record {
      onward = g;
      fixed = λ k m n. h.1 k m (omega arith);
      stops = λ m. let z : ⊥ = omega arith in absurd z;
    }

-- one place after another
module _ (order : List ℕ) (r : Row) where
  same_by : (P : ℕ → Bool) (d place later : ℕ) → later ≡ place + d → Fixed order r.care place later
      → smallest P (drop place order) r ≡ smallest P (drop later order) r
  same_by P zero place later e f = let s : place ≡ later = omega arith in ap (λ (k : ℕ). smallest P (drop k order) r) s
  same_by P (suc d) place later e f =
      let h = f place (omega arith) (omega arith) in
      passes P order place r (get_or order place 0) h.0 refl h.1
      ∙ same_by P d (place + 1) later (omega arith) (λ k l m. f k (omega arith) m)

  passed-by : (d place later : ℕ) → later ≡ place + d → Fixed order r.care place later → Passed order place r → Passed order later r
  passed-by zero place later e f p = let s : place ≡ later = omega arith in subst (λ (k : ℕ). Passed order k r) s p
  passed-by (suc d) place later e f p =
      let h = f place (omega arith) (omega arith) in
      passed-by d (place + 1) later (omega arith) (λ k l m. f k (omega arith) m)
      (passed-fixed order place (get_or order place 0) h.0 refl r h.1 p)

  module _ (place later : ℕ) (s : Skips order place r.care later) where
    distance : later ≡ place + (later - place)
    distance = let o = s.onward in omega arith

    skip-same : (P : ℕ → Bool) → smallest P (drop place order) r ≡ smallest P (drop later order) r
    skip-same P = same_by P (later - place) place later distance s.fixed

    pub skip-passed : Passed order place r → Passed order later r
    skip-passed p = passed-by (later - place) place later distance s.fixed p

    skip-stops : later < length order → (v : ℕ) → v ≡ get_or order later 0 → is_one v r.care ≡ false
    skip-stops l v e = ap (λ (w : ℕ). is_one w r.care) e ∙ s.stops l

    -- a level of the search: after the last place, or at the variable of the later one
    pub level-end : (P : ℕ → Bool) → length order ≤ later → P r.value ≡ true → some r.value ≡ smallest P (drop place order) r
    level-end P l p = at-end P order later r l p ∙ sym (skip-same P)

    module _ (l : later < length order) (v : ℕ) (e : v ≡ get_or order later 0) where
      pub level-passed : Passed order place r → (b : Bool) (next : Row) → next ≡ fixed_at b v r → Passed order (later + 1) next
      level-passed p b next d = passed-next order later v l e r (skip-passed p) b next d

      module _ (P : ℕ → Bool) (low : Row) (low-is : low ≡ at_zero v r) where
        pub level-zero : (t : ℕ) → some t ≡ smallest P (drop (later + 1) order) low → some t ≡ smallest P (drop place order) r
        level-zero t z = zero-found P order later r v l e (skip-stops l v e) low low-is t z ∙ sym (skip-same P)

        pub level-one : none ≡ smallest P (drop (later + 1) order) low → (high : Row) → high ≡ at_one v r → (o : Option ℕ)
            → o ≡ smallest P (drop (later + 1) order) high → o ≡ smallest P (drop place order) r
        level-one z high high_is o f = with-one P order later r v l e (skip-stops l v e) low low-is high high_is o (sym z) f ∙ sym (skip-same P)
