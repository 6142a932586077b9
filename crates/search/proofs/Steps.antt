-- One level of the search, as the definition has it.
use mathlib.Core.Path.{◌≡◌, sym, ap, ◌∙◌}
use mathlib.Core.Bool.{Bool, true, false}
use mathlib.Core.List.{List}
use mathlib.Core.Option.{Option, none, some}
use Prim.Native.Nat.{ℕ, ◌+◌, ◌≤◌, ◌<◌}
use lib.ListN.{length, get_or, drop, drop_of_length-le}
use Rattle.rules.specs.declared.Row.{Row}
use Rattle.rules.specs.Words.{is_order, is_one, fixes, dashes, at_zero, at_one}
use Rattle.rules.specs.Search.{or_else, smallest, not_below}
use Rattle.rules.proofs.Bits.{bit, bit-zero}
use Rattle.rules.proofs.Orders.{is-order}
use Rattle.rules.proofs.From.{Free, smallest_from, from_is}
use Rattle.rules.proofs.Reach.{smallest-pass, smallest-try}
use Rattle.search.proofs.Places.{first-left}

module _ (P : ℕ → Bool) (order : List ℕ) (place : ℕ) (r : Row) where
  pub at-end : length order ≤ place → P r.value ≡ true → some r.value ≡ smallest P (drop place order) r
  unfolding smallest
  at-end h p = rw (drop_of_length-le order h, p)

  module _ (v : ℕ) (h : place < length order) (e : v ≡ get_or order place 0) where
    pub passes : fixes r v ≡ true → smallest P (drop place order) r ≡ smallest P (drop (place + 1) order) r
    passes f = ap (λ (vs : List ℕ). smallest P vs r) (first-left order place v h e) ∙ smallest-pass P v (drop (place + 1) order) r f

    tries : fixes r v ≡ false
        → smallest P (drop place order) r ≡ or_else (smallest P (drop (place + 1) order) (at_zero v r)) (smallest P (drop (place + 1) order) (at_one v r))
    tries f = ap (λ (vs : List ℕ). smallest P vs r) (first-left order place v h e) ∙ smallest-try P v (drop (place + 1) order) r f

    -- what is found with 0 is the answer; if nothing is, what is found with 1
    module _ (f : fixes r v ≡ false) (low : Row) (low-is : low ≡ at_zero v r) where
      pub zero-found : (t : ℕ) → some t ≡ smallest P (drop (place + 1) order) low → some t ≡ smallest P (drop place order) r
      zero-found t z = sym (tries f ∙ rw (← low-is, ← z))

      pub with-one : (high : Row) → high ≡ at_one v r → (o : Option ℕ) → smallest P (drop (place + 1) order) low ≡ none
          → o ≡ smallest P (drop (place + 1) order) high → o ≡ smallest P (drop place order) r
      with-one high high_is o z e = sym (tries f ∙ rw (← low-is, ← high_is, z, ← e))

-- the same, from a start on
module _ (P : ℕ → Bool) (start : ℕ) (order : List ℕ) (place : ℕ) (r : Row) where
  pub from_end : length order ≤ place → smallest_from P start (drop place order) r ≡ smallest P (drop place order) r
  unfolding smallest smallest_from
  from_end h = rw (drop_of_length-le order h)

  module _ (v : ℕ) (h : place < length order) (e : v ≡ get_or order place 0) where
    -- where the start has 1, what is found with 1
    pub from_one : is_one v start ≡ true → (high : Row) → high ≡ at_one v r → (o : Option ℕ)
        → o ≡ smallest_from P start (drop (place + 1) order) high → o ≡ smallest_from P start (drop place order) r
    unfolding smallest_from
    from_one b high high_is o f = rw (first-left order place v h e, b, ← high_is, ← f)

    -- where it has 0, what is found with 0 is the answer; if nothing is, what is found with 1 and no bound
    module _ (b : is_one v start ≡ false) (low : Row) (low-is : low ≡ at_zero v r) where
      pub from_zero : (t : ℕ) → some t ≡ smallest_from P start (drop (place + 1) order) low → some t ≡ smallest_from P start (drop place order) r
      unfolding smallest_from
      from_zero t z = rw (first-left order place v h e, b, ← low-is, ← z)

      pub from-above : (high : Row) → high ≡ at_one v r → (o : Option ℕ) → smallest_from P start (drop (place + 1) order) low ≡ none
          → o ≡ smallest P (drop (place + 1) order) high → o ≡ smallest_from P start (drop place order) r
      unfolding smallest_from
      from-above high high_is o z f = rw (first-left order place v h e, b, ← low-is, ← high_is, z, ← f)

-- before the first place: the row without literals fixes nothing, and the whole order is left
abbrev pub Dashes : Row → Type 0
Dashes r = (r.care ≡ 0) × (r.value ≡ 0)

pub is-dashes : (r : Row) → Dashes r → r ≡ dashes
is-dashes r d = λ i. record { care = d.0 i; value = d.1 i }

pub dashes-free : (vs : List ℕ) (r : Row) → Dashes r → Free vs r
dashes-free vs r d i h = ap (bit i) d.0 ∙ bit-zero i

pub from_first : (P : ℕ → Bool) (start : ℕ) (order : List ℕ) → is_order (length order) order ≡ true → (r : Row) → Dashes r → (o : Option ℕ)
    → o ≡ smallest_from P start order r → o ≡ smallest (not_below order start P) order dashes
from_first P start order h r d o e =
    e ∙ ap (smallest_from P start order) (is-dashes r d) ∙ sym (from_is (length order) order (is-order (length order) order h) P start)
