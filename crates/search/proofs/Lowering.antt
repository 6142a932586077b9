-- The row at the places passed: one place more is fixed, and the smallest good setting stays.
use mathlib.Core.Path.{◌≡◌, sym, ap, subst, ◌∙◌}
use mathlib.Core.Bool.{Bool, true, false}
use mathlib.Core.List.{List}
use mathlib.Core.Option.{none, some}
use Prim.Native.Nat.{ℕ, ◌+◌, ◌≤◌, ◌<◌}
use native.Mathlib.Omega.{arith}
use lib.Dec.{ltb}
use lib.IntN.{ℤ}
use lib.ListN.{length, get_or, drop}
use borrow.Author.Tests.{ltb-true, ltb-false}
use Rattle.rules.specs.declared.Row.{Row}
use Rattle.rules.specs.Words.{is_one, holds, is_row, at_zero, at_one, fixed_at}
use Rattle.rules.specs.Search.{smallest}
use Rattle.rules.proofs.Logic.{test}
use Rattle.rules.proofs.Bits.{bit, bit_high, bit-ext}
use Rattle.rules.proofs.Orders.{has, is-order}
use Rattle.rules.proofs.Fixed.{row_under, row-high, held-value, fixed-holds}
use Rattle.rules.proofs.Rows.{dashes-row, at_zero-row, at_one-row}
use Rattle.rules.proofs.From.{free-first}
use Rattle.search.specs.declared.question.Question.{Question}
use Rattle.search.specs.Question.{Asked, Ahead, Met, Lowers}
use Rattle.search.specs.Good.{good_of}
use Rattle.search.proofs.Places.{first-left, all-passed, none_passed, passed-next, free-next}
use Rattle.search.proofs.Swift.{swift-met, swift-none}
use Rattle.search.proofs.Steps.{Dashes, at-end, zero-found, with-one, is-dashes, dashes-free}

module _ (order : List ℕ) (place : ℕ) {a b : List ℤ} {rows : List Row} (q : Asked order a b rows) (r : Row) (h : Ahead order place r) where
  -- after the last place, the setting met is the row's own
  pub met-end : (P : ℕ → Bool) → length order ≤ place → (t : ℕ) → Met P (length order) r t → some t ≡ smallest P (drop place order) r
  met-end P l t m =
      let n = length order in
      let e : r.value ≡ t =
      bit-ext (λ i. test (ltb i n)
      (λ p. sym (held-value r t m.held i (all-passed order place r l h.passed i (ltb-true i n p))))
      (λ p. let g : n ≤ i = ltb-false i n p in row-high n r h.formed i g ∙ sym (bit_high n i t m.below g))) in
      sym (ap some e) ∙ at-end P order place r l (ap P e ∙ m.passed)

  module _ (v : ℕ) (k : place < length order) (e : v ≡ get_or order place 0) where
    pub is_free : is_one v r.care ≡ false
    is_free = free-first v (drop (place + 1) order) r (subst (λ (vs : List ℕ). (i : ℕ) → has i vs ≡ true → bit i r.care ≡ false) (first-left order place v k e) h.free)

    is-named : (1 ≤ v) × (v ≤ length order)
    is-named = let m = (is-order (length order) order q.ordered).named place k in (omega (arith, e, m.0), omega (arith, e, m.1))

    fixed-row : (c : Bool) → is_row (length order) (fixed_at c v r) ≡ true
    fixed-row true = at_one-row (length order) v r is-named.0 is-named.1 h.formed
    fixed-row false = at_zero-row (length order) v r is-named.0 is-named.1 h.formed

    module _ (c : Bool) (next : Row) (d : next ≡ fixed_at c v r) where
      pub ahead-next : Ahead order (place + 1) next
      ahead-next = record {
        formed = ap (is_row (length order)) d ∙ fixed-row c;
        passed = passed-next order place v k e r h.passed c next d;
        free = free-next order place v k e q r h.free c next d;
      }

      pub met_next : (P : ℕ → Bool) (t : ℕ) → is_one v t ≡ c → Met P (length order) r t → Met P (length order) next t
      met_next P t s m = record {
        passed = m.passed;
        held = ap (λ (x : Row). holds x t) d ∙ fixed-holds c v r (row_under (length order) r h.formed) is_free t m.held s;
        below = m.below;
      }

    -- at 0 where a good setting has 0; at 1 where none has
    module _ (P : ℕ → Bool) (low : Row) (low-is : low ≡ at_zero v r) where
      pub lowers-zero : (t : ℕ) → Met P (length order) low t → Lowers P order place r low t
      lowers-zero t m = record { ahead = ahead-next false low low-is; met = m; same = zero-found P order place r v k e is_free low low-is }

      pub lowers-one : smallest P (drop (place + 1) order) low ≡ none → (high : Row) → high ≡ at_one v r → (t : ℕ) → Met P (length order) high t
          → Lowers P order place r high t
      lowers-one z high high_is t m = record {
        ahead = ahead-next true high high_is;
        met = m;
        same = λ u f. with-one P order place r v k e is_free low low-is high high_is (some u) z f;
      }

-- what the swift order finds, or does not find
module _ (q : Question) (place : ℕ) (r : Row) (h : Ahead q.order.now place r) where
  pub first-met : (t : ℕ) → some t ≡ smallest (good_of q) q.swift.now r → Met (good_of q) (length q.order.now) r t
  first-met t f = swift-met q.asked q.swift.now q.same (good_of q) r h.formed t (sym f)

  pub first-none : none ≡ smallest (good_of q) q.swift.now r → none ≡ smallest (good_of q) (drop place q.order.now) r
  first-none f = sym (swift-none q.asked q.swift.now q.same (good_of q) r h.formed place (sym f))

  module _ (v : ℕ) (k : place < length q.order.now) (e : v ≡ get_or q.order.now place 0) (low : Row) (low-is : low ≡ at_zero v r) where
    low-ahead : Ahead q.order.now (place + 1) low
    low-ahead = ahead-next q.order.now place q.asked r h v k e false low low-is

    -- the setting met has 0
    pub keeps-zero : (t : ℕ) → false ≡ is_one v t → Met (good_of q) (length q.order.now) r t → Lowers (good_of q) q.order.now place r low t
    keeps-zero t z m =
        lowers-zero q.order.now place q.asked r h v k e (good_of q) low low-is t
        (met_next q.order.now place q.asked r h v k e false low low-is (good_of q) t (sym z) m)

    -- it has 1, and another good one has 0
    pub takes-zero : (t : ℕ) → some t ≡ smallest (good_of q) q.swift.now low → Lowers (good_of q) q.order.now place r low t
    takes-zero t f =
        lowers-zero q.order.now place q.asked r h v k e (good_of q) low low-is t
        (swift-met q.asked q.swift.now q.same (good_of q) low low-ahead.formed t (sym f))

    -- none has
    pub keeps-one : none ≡ smallest (good_of q) q.swift.now low → (high : Row) → high ≡ at_one v r → (t : ℕ) → true ≡ is_one v t
        → Met (good_of q) (length q.order.now) r t → Lowers (good_of q) q.order.now place r high t
    keeps-one f high high_is t z m =
        lowers-one q.order.now place q.asked r h v k e (good_of q) low low-is
        (swift-none q.asked q.swift.now q.same (good_of q) low low-ahead.formed (place + 1) (sym f)) high high_is t
        (met_next q.order.now place q.asked r h v k e true high high_is (good_of q) t (sym z) m)

-- before the first place
pub ahead-first : {order : List ℕ} {a b : List ℤ} {rows : List Row} → Asked order a b rows → (r : Row) → Dashes r → Ahead order 0 r
ahead-first {order} q r d = record {
  formed = ap (is_row (length order)) (is-dashes r d) ∙ dashes-row (length order);
  passed = none_passed q r;
  free = dashes-free order r d;
}
