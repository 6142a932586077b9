-- The start's own path: the row that follows the start place by place, and what is found from a place of it on.
use mathlib.Core.Path.{◌≡◌, refl, sym, ap, subst, ◌∙◌}
use mathlib.Core.Bool.{Bool, true, false}
use mathlib.Core.List.{List}
use mathlib.Core.Option.{Option, none, some}
use Prim.Native.Nat.{ℕ, zero, suc, ◌+◌, ◌-◌, ◌≤◌, ◌<◌}
use native.Mathlib.Numerals.{add-one}
use native.Mathlib.Omega.{arith}
use lib.Dec.{eqb}
use lib.IntN.{ℤ}
use lib.ListN.{length, get_or, drop}
use Rattle.rules.specs.declared.Row.{Row}
use Rattle.rules.specs.Words.{is_order, is_one, with_zero, with_one, fixes, dashes, at_one, without, fixed_at}
use Rattle.rules.specs.Search.{smallest, not_below}
use Rattle.rules.proofs.Logic.{test}
use Rattle.rules.proofs.Bits.{bit-set, bit-clear, bit-ext}
use Rattle.rules.proofs.Fixed.{Under, row_under, own-bit}
use Rattle.rules.proofs.From.{smallest_from}
use Rattle.search.specs.Question.{Asked, Ahead, followed, above_at}
use Rattle.search.proofs.Steps.{from_end, from_one, from_zero, from-above, from_first}
use Rattle.search.proofs.Lowering.{is_free, ahead-next, ahead-first}

-- a bit that was 0 is cleared again
clear-set : (v w : ℕ) → is_one v w ≡ false → with_zero v (with_one v w) ≡ w
clear-set v w f = bit-ext (λ i. rw (bit-clear (v - 1) i (with_one v w), bit-set (v - 1) i w) (test (eqb (v - 1) i)
    (λ q. rw (q, own-bit v i w f q))
    (λ q. rw q)))

clear-same : (v w : ℕ) → is_one v w ≡ false → with_zero v w ≡ w
clear-same v w f = bit-ext (λ i. rw (bit-clear (v - 1) i w) (test (eqb (v - 1) i)
    (λ q. rw (q, own-bit v i w f q))
    (λ q. rw q)))

-- a variable that was free goes again
without-fixed : (b : Bool) (v : ℕ) (r : Row) → Under r → fixes r v ≡ false → without v (fixed_at b v r) ≡ r
without-fixed true v r u f = λ i. record { care = clear-set v r.care f i; value = clear-set v r.value (u (v - 1) f) i }
without-fixed false v r u f = λ i. record { care = clear-set v r.care f i; value = clear-same v r.value (u (v - 1) f) i }

module _ (order : List ℕ) (start : ℕ) where
  pub followed-none : followed order start 0 ≡ dashes
  unfolding followed
  followed-none = refl

  pub followed-more : (k v : ℕ) → v ≡ get_or order k 0 → (r : Row) → r ≡ followed order start k → fixed_at (is_one v start) v r ≡ followed order start (k + 1)
  unfolding followed
  followed-more k v e r d = rw (e, d, add-one)

  module _ {a b : List ℤ} {rows : List Row} (q : Asked order a b rows) where
    pub followed-ahead : (k : ℕ) → k ≤ length order → Ahead order k (followed order start k)
    followed-ahead zero l = subst (Ahead order 0) (sym followed-none) (ahead-first q dashes (refl, refl))
    followed-ahead (suc k) l = subst (λ (i : ℕ). Ahead order i (followed order start i)) (add-one k)
        (ahead-next order k q (followed order start k) (followed-ahead k (omega arith)) (get_or order k 0) (omega arith) refl
        (is_one (get_or order k 0) start) (followed order start (k + 1)) (sym (followed-more k (get_or order k 0) refl (followed order start k) refl)))

    -- one place back
    module _ (k : ℕ) (l : k < length order) (v : ℕ) (e : v ≡ get_or order k 0) where
      pub followed-back : (r : Row) → r ≡ followed order start (k + 1) → without v r ≡ followed order start k
      followed-back r d =
          let h = followed-ahead k (omega arith) in
          ap (without v) (d ∙ sym (followed-more k v e (followed order start k) refl))
          ∙ without-fixed (is_one v start) v (followed order start k) (row_under (length order) (followed order start k) h.formed)
          (is_free order k q (followed order start k) h v l e)

  -- from a place of the path on: what is found at the next place is found; where nothing is, what is found above the start here
  module _ (P : ℕ → Bool) where
    abbrev from_place : ℕ → Option ℕ
    from_place k = smallest_from P start (drop k order) (followed order start k)

    module _ (k : ℕ) (l : k < length order) where
      next-is : (b : Bool) → is_one (get_or order k 0) start ≡ b → followed order start (k + 1) ≡ fixed_at b (get_or order k 0) (followed order start k)
      next-is b e =
          sym (followed-more k (get_or order k 0) refl (followed order start k) refl) ∙ ap (λ (c : Bool). fixed_at c (get_or order k 0) (followed order start k)) e

      up-some : (t : ℕ) → some t ≡ from_place (k + 1) → some t ≡ from_place k
      up-some t f = test (is_one (get_or order k 0) start)
          (λ e. from_one P start order k (followed order start k) (get_or order k 0) l refl e (followed order start (k + 1)) (next-is true e) (some t) f)
          (λ e. from_zero P start order k (followed order start k) (get_or order k 0) l refl e (followed order start (k + 1)) (next-is false e) t f)

      up_none : from_place (k + 1) ≡ none → (r : Row) → r ≡ followed order start k → (o : Option ℕ) → o ≡ above_at P order start k r → o ≡ from_place k
      up_none z r d o f = test (is_one (get_or order k 0) start)
          (λ e. from_one P start order k (followed order start k) (get_or order k 0) l refl e (followed order start (k + 1)) (next-is true e) o
          (f ∙ rw e (sym z)))
          (λ e. from-above P start order k (followed order start k) (get_or order k 0) l refl e (followed order start (k + 1)) (next-is false e)
          (at_one (get_or order k 0) (followed order start k)) refl o z
          (f ∙ rw (e, d)))

    climb : (t k : ℕ) → k ≤ length order → some t ≡ from_place k → some t ≡ from_place 0
    climb t zero l f = f
    climb t (suc k) l f =
        climb t k (omega arith) (up-some k (omega arith) t (subst (λ (i : ℕ). some t ≡ from_place i) (sym (add-one k)) f))

    -- from the first place on: what is not below the start
    first-place : is_order (length order) order ≡ true → (o : Option ℕ) → o ≡ from_place 0 → o ≡ smallest (not_below order start P) order dashes
    unfolding followed
    first-place h o e = from_first P start order h dashes (refl, refl) o e

    found_at : is_order (length order) order ≡ true → (t k : ℕ) → k ≤ length order → some t ≡ from_place k
        → some t ≡ smallest (not_below order start P) order dashes
    found_at h t k l f = first-place h (some t) (climb t k l f)

    -- back along the path, while nothing was found
    pub record Climbing (at : ℕ) (r : Row) : Type 0 where
      pub within : at ≤ length order
      pub follows : r ≡ followed order start at
      pub nothing : from_place at ≡ none

    -- at the last place the path is the start itself
    module _ (r : Row) (d : r ≡ followed order start (length order)) where
      last : (o : Option ℕ) → o ≡ smallest P (drop (length order) order) r → o ≡ from_place (length order)
      last o f =
          f ∙ ap (smallest P (drop (length order) order)) d
          ∙ sym (from_end P start order (length order) (followed order start (length order)) (omega arith))

      pub start-found : is_order (length order) order ≡ true → (t : ℕ) → some t ≡ smallest P (drop (length order) order) r
          → some t ≡ smallest (not_below order start P) order dashes
      start-found h t f = found_at h t (length order) (omega arith) (last (some t) f)

      pub at_last : none ≡ smallest P (drop (length order) order) r → Climbing (length order) r
      at_last f = record { within = omega arith; follows = d; nothing = sym (last none f) }

    pub climbed : is_order (length order) order ≡ true → (at : ℕ) → at ≤ 0 → (r : Row) → Climbing at r → none ≡ smallest (not_below order start P) order dashes
    climbed h at l r c = let e : at ≡ 0 = omega arith in first-place h none (sym c.nothing ∙ ap from_place e)

    module _ {a b : List ℤ} {rows : List Row} (q : Asked order a b rows) (at : ℕ) (r : Row) (c : Climbing at r) (z : 0 < at) where
      pub inside : at - 1 < length order
      inside = let w = c.within in omega arith

      module _ (v : ℕ) (e : v ≡ get_or order (at - 1) 0) (next : Row) (d : next ≡ without v r) where
        here : at ≡ (at - 1) + 1
        here = omega arith

        pub next-follows : next ≡ followed order start (at - 1)
        next-follows = d ∙ followed-back q (at - 1) inside v e r (c.follows ∙ ap (followed order start) here)

        pub next-ahead : Ahead order (at - 1) next
        next-ahead = subst (Ahead order (at - 1)) (sym next-follows) (followed-ahead q (at - 1) (let i = inside in omega arith))

        above-is : (o : Option ℕ) → o ≡ above_at P order start (at - 1) next → o ≡ from_place (at - 1)
        above-is o f = up_none (at - 1) inside (ap from_place (sym here) ∙ c.nothing) next next-follows o f

        pub climb-more : none ≡ above_at P order start (at - 1) next → Climbing (at - 1) next
        climb-more f = record { within = (let i = inside in omega arith); follows = next-follows; nothing = sym (above-is none f) }

        pub found-above : (t : ℕ) → some t ≡ above_at P order start (at - 1) next → some t ≡ smallest (not_below order start P) order dashes
        found-above t f = found_at q.ordered t (at - 1) (let i = inside in omega arith) (above-is (some t) f)
