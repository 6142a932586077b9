-- Another order of the same variables: the same questions may be asked in it, and in a row it finds nothing exactly if the order finds
-- nothing.
use mathlib.Core.Path.{◌≡◌, sym, subst, ◌∙◌}
use mathlib.Core.Bool.{Bool, true, false}
use mathlib.Core.List.{List, [], ◌∷◌}
use mathlib.Core.Option.{none, some}
use Prim.Native.Nat.{ℕ, zero, suc, ◌-◌, ◌^◌, ◌≤◌, ◌<◌}
use native.Mathlib.Omega.{arith}
use lib.Dec.{eqb}
use lib.IntN.{ℤ}
use lib.ListN.{length, drop}
use Rattle.rules.specs.declared.Row.{Row}
use Rattle.rules.specs.Words.{max_inputs, is_order, is_row}
use Rattle.rules.specs.Sheets.{in_reach}
use Rattle.rules.specs.Search.{smallest}
use Rattle.rules.proofs.Logic.{clash, option}
use Rattle.std.proofs.lemmas.Bool.{false_from_ne_true, or_right}
use Rattle.rules.proofs.Bits.{bit_below}
use Rattle.rules.proofs.Orders.{has, IsOrder, is-order}
use Rattle.rules.proofs.Fixed.{row_under, row-high}
use Rattle.rules.proofs.Reach.{sound, reach-held, reach-kept}
use Rattle.rules.proofs.Smallest.{smallest-passes, smallest-held, smallest-below, smallest-none}
use Rattle.sheets.specs.Numbers.{numbers_of}
use Rattle.search.specs.declared.question.Question.{Question}
use Rattle.search.specs.Question.{Asked, Met, cares_within}

has-drop : (k : ℕ) (vs : List ℕ) (i : ℕ) → has i (drop k vs) ≡ true → has i vs ≡ true
unfolding has
has-drop zero vs i h = h
has-drop (suc k) [] i h = h
has-drop (suc k) (v ∷ vs) i h = or_right (eqb (v - 1) i) _ (has-drop k vs i h)

module _ {order : List ℕ} {a b : List ℤ} {rows : List Row} (q : Asked order a b rows) (swift : List ℕ) (o : is_order (length order) swift ≡ true) where
  is-swift : IsOrder (length order) swift
  is-swift = is-order (length order) swift o

  size-swift : length order ≡ length swift
  size-swift = sym is-swift.size

  pub asked-swift : Asked swift a b rows
  asked-swift = record {
    ordered = subst (λ (n : ℕ). is_order n swift ≡ true) size-swift o;
    size = subst (λ (n : ℕ). n ≤ max_inputs) size-swift q.size;
    reach-a = subst (λ (n : ℕ). in_reach n a ≡ true) size-swift q.reach-a;
    reach-b = subst (λ (n : ℕ). in_reach n b ≡ true) size-swift q.reach-b;
    cares = subst (λ (n : ℕ). cares_within n rows ≡ true) size-swift q.cares;
  }

  module _ (P : ℕ → Bool) (r : Row) (f : is_row (length order) r ≡ true) where
    -- what is found in it passes
    pub swift-met : (t : ℕ) → smallest P swift r ≡ some t → Met P (length order) r t
    swift-met t e = record {
      passed = smallest-passes (length order) swift is-swift P r f t e;
      held = smallest-held (length order) swift is-swift P r f t e;
      below = smallest-below (length order) swift is-swift P r f t e;
    }

    -- no variable left has a bit from n up
    left_below : (place i : ℕ) → length order ≤ i → has i (drop place order) ≡ false
    left_below place i l = false_from_ne_true _ (λ h.
        let m : i < length order = (is-order (length order) order q.ordered).inside i (has-drop place order i h) in omega arith)

    -- nothing found in it is nothing found
    pub swift-none : (place : ℕ) → smallest P swift r ≡ none → smallest P (drop place order) r ≡ none
    swift-none place e = option (smallest P (drop place order) r)
        (λ z. z)
        (λ t z. let s = sound P (drop place order) r t z in
        let low : t < 2 ^ length order =
        bit_below (length order) t (λ i l. reach-kept (drop place order) r t i s.1 (left_below place i l) ∙ row-high (length order) r f i l) in
        clash s.0 (smallest-none (length order) swift is-swift P r f e t low (reach-held (drop place order) r t (row_under (length order) r f) s.1)))

-- what a question asks, it asks in its swift order
pub swift-asked : (q : Question) → Asked q.swift.now (numbers_of q.a.now) (numbers_of q.b.now) q.rows.now
swift-asked q = asked-swift q.asked q.swift.now q.same
