-- What is asked, at a place of the order: the variable that stands there, and what the row fixes before and after it.
use mathlib.Core.Path.{◌≡◌, refl, sym, ap, subst, ◌∙◌}
use mathlib.Core.Bool.{Bool, true, false}
use mathlib.Core.List.{List, [], ◌∷◌}
use Prim.Native.Nat.{ℕ, zero, suc, ◌+◌, ◌-◌, ◌≤◌, ◌<◌}
use native.Mathlib.Numerals.{add-one}
use native.Mathlib.Omega.{arith}
use lib.Dec.{eqb, leb}
use lib.IntN.{ℤ}
use lib.ListN.{length, get_or, drop, drop_of_length-le}
use lib.Seq.{drop-cons}
use borrow.Author.Tests.{leb-true, le-leb}
use Rattle.rules.specs.declared.Row.{Row}
use Rattle.rules.specs.Words.{max_inputs, with_one, fixes, fixed_at}
use Rattle.rules.specs.Sheets.{variable, in_reach}
use Rattle.rules.proofs.Logic.{test, clash}
use Rattle.std.proofs.lemmas.Bool.{and_parts, and_from, or_left, or_right}
use Rattle.rules.proofs.Bits.{bit, bit-set}
use Rattle.rules.proofs.Orders.{has, Distinct, is-order}
use Rattle.rules.proofs.Fixed.{own-bit}
use Rattle.rules.proofs.From.{Free, free-rest}
use Rattle.search.specs.Question.{Asked, Passed}

-- numbers in reach of fewer variables are in reach of more
pub reach-more : (n m : ℕ) → n ≤ m → (zs : List ℤ) → in_reach n zs ≡ true → in_reach m zs ≡ true
unfolding in_reach
reach-more n m l [] h = refl
reach-more n m l (z ∷ zs) h =
    let p = and_parts (leb (variable z) n) (in_reach n zs) h in
    let k = leb-true (variable z) n p.0 in
    and_from _ _ (le-leb (variable z) m (omega arith)) (reach-more n m l zs p.1)

distinct-drop : (k : ℕ) (vs : List ℕ) → Distinct vs → Distinct (drop k vs)
distinct-drop zero vs d = d
distinct-drop (suc k) [] d = d
distinct-drop (suc k) (v ∷ vs) d = distinct-drop k vs d.1

module _ {order : List ℕ} {a b : List ℤ} {rows : List Row} (q : Asked order a b rows) where
  -- what stands at a place is a variable
  pub is-variable : (place v : ℕ) → place < length order → v ≡ get_or order place 0 → (1 ≤ v) × (v ≤ max_inputs)
  is-variable place v h e =
      let n = (is-order (length order) order q.ordered).named place h in
      let s = q.size in
      (omega (arith, e, n.0), omega (arith, e, n.1))

  -- no variable stands at two places
  pub distinct-left : (place : ℕ) → Distinct (drop place order)
  distinct-left place = distinct-drop place order (is-order (length order) order q.ordered).distinct

  -- before the first place nothing need be fixed
  pub none_passed : (r : Row) → Passed order 0 r
  none_passed r i l h = clash ((is-order (length order) order q.ordered).every i l) h

module _ (order : List ℕ) (place : ℕ) where
  -- after the last place every variable is fixed
  pub all-passed : (r : Row) → length order ≤ place → Passed order place r → (i : ℕ) → i < length order → bit i r.care ≡ true
  unfolding has
  all-passed r h p i l = p i l (ap (has i) (drop_of_length-le order h))

  -- the variable at the place comes first of those left
  module _ (v : ℕ) (h : place < length order) (e : v ≡ get_or order place 0) where
    pub first-left : drop place order ≡ v ∷ drop (place + 1) order
    first-left = rw (e, add-one) (drop-cons order place 0 h)

    still-passed : (i : ℕ) → eqb (v - 1) i ≡ false → has i (drop (place + 1) order) ≡ false → has i (drop place order) ≡ false
    unfolding has
    still-passed i d n = ap (has i) first-left ∙ rw (d, n)

    -- it is passed where the row fixes it
    pub passed-fixed : (r : Row) → fixes r v ≡ true → Passed order place r → Passed order (place + 1) r
    passed-fixed r f p i l n = test (eqb (v - 1) i)
        (λ d. own-bit v i r.care f d)
        (λ d. p i l (still-passed i d n))

    -- and where it is fixed now
    set-passed : (r : Row) → Passed order place r → (i : ℕ) → i < length order → has i (drop (place + 1) order) ≡ false → bit i (with_one v r.care) ≡ true
    set-passed r p i l n = bit-set (v - 1) i r.care ∙ test (eqb (v - 1) i)
        (λ d. or_left _ (bit i r.care) d)
        (λ d. or_right (eqb (v - 1) i) _ (p i l (still-passed i d n)))

    fixed-passed : (r : Row) → Passed order place r → (b : Bool) → Passed order (place + 1) (fixed_at b v r)
    fixed-passed r p true = set-passed r p
    fixed-passed r p false = set-passed r p

    pub passed-next : (r : Row) → Passed order place r → (b : Bool) (next : Row) → next ≡ fixed_at b v r → Passed order (place + 1) next
    passed-next r p b next e = subst (Passed order (place + 1)) (sym e) (fixed-passed r p b)

    -- that fixes no other
    pub free-next : {a b : List ℤ} {rows : List Row} → Asked order a b rows → (r : Row) → Free (drop place order) r
        → (b : Bool) (next : Row) → next ≡ fixed_at b v r → Free (drop (place + 1) order) next
    free-next q r f b next e =
        subst (Free (drop (place + 1) order)) (sym e)
        (free-rest b v (drop (place + 1) order) r (subst Distinct first-left (distinct-left q place)).0 (subst (λ (vs : List ℕ). Free vs r) first-left f))
