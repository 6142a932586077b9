-- The search from a start on: it is bounded only while it follows the start place by place.
use mathlib.Core.Path.{◌≡◌, refl, sym, ◌∙◌, subst}
use mathlib.Core.Bool.{Bool, true, false, not, cond, ◌&&◌, and-true, and-false}
use mathlib.Core.List.{List, [], ◌∷◌}
use mathlib.Core.Option.{Option, none, some}
use Prim.Native.Nat.{ℕ, ◌-◌}
use lib.Dec.{eqb}
use borrow.Author.Tests.{eqb-true, eq-eqb}
use Rattle.rules.specs.declared.Row.{Row}
use Rattle.rules.specs.Words.{is_one, before, smaller, fixes, dashes, at_zero, at_one, fixed_at}
use Rattle.rules.specs.Search.{or_else, smallest, not_below}
use Rattle.rules.proofs.Logic.{test, clash}
use Rattle.std.proofs.lemmas.Bool.{false_from_ne_true, or_left, or_right}
use Rattle.rules.proofs.Bits.{bit, bit-zero}
use Rattle.rules.proofs.Rows.{dashes-row}
use Rattle.rules.proofs.Orders.{has, Distinct, IsOrder}
use Rattle.rules.proofs.Fixed.{Under, row_under, other-care, fixed-under}
use Rattle.rules.proofs.Reach.{smallest-try, Reach, same, turn-bit}
use Rattle.rules.proofs.Smallest.{resume}
use Rattle.rules.proofs.Cut.{cut}

-- Where the start has 1, a setting with 0 would be smaller; where it has 0, a setting with 1 is not smaller, whatever follows.
unfoldable pub smallest_from : (ℕ → Bool) → ℕ → List ℕ → Row → Option ℕ
smallest_from P start [] r = cond (P r.value) (some r.value) none
smallest_from P start (v ∷ vs) r =
    cond (is_one v start) (smallest_from P start vs (at_one v r)) (or_else (smallest_from P start vs (at_zero v r)) (smallest P vs (at_one v r)))

-- the search comes to nothing where nothing passes
nothing : (vs : List ℕ) (r : Row) → smallest (λ t. false) vs r ≡ none
nothing vs r = cut (λ t. false) (λ s. false) (λ s p. p) (λ v s f p. p) (λ v s f p. p) vs r refl

-- the row fixes none of the variables
abbrev pub Free : List ℕ → Row → Type 0
Free vs r = (i : ℕ) → has i vs ≡ true → bit i r.care ≡ false

pub free-first : (v : ℕ) (vs : List ℕ) (r : Row) → Free (v ∷ vs) r → fixes r v ≡ false
unfolding has
free-first v vs r f = f (v - 1) (or_left _ (has (v - 1) vs) (eq-eqb (v - 1) (v - 1) refl))

pub free-rest : (b : Bool) (v : ℕ) (vs : List ℕ) (r : Row) → has (v - 1) vs ≡ false → Free (v ∷ vs) r → Free vs (fixed_at b v r)
unfolding has
free-rest b v vs r d f i h =
    other-care b v r i (false_from_ne_true _ (λ q. clash (subst (λ (k : ℕ). has k vs ≡ true) (sym (eqb-true (v - 1) i q)) h) d))
    ∙ f i (or_right (eqb (v - 1) i) _ h)

-- the bound at the place of a free variable v, by the value that is tried there
module _ (P : ℕ → Bool) (start v : ℕ) (vs : List ℕ) (r : Row) (u : Under r) (f : fixes r v ≡ false) where
  bound : (b c : Bool) → is_one v start ≡ c → (t : ℕ) → Reach vs (fixed_at b v r) t
      → not_below (v ∷ vs) start P t ≡ (P t && not (before b c (smaller vs t start)))
  unfolding smaller
  bound b c e t s = rw (turn-bit b v vs r t u f s, e)

  -- the start's own value leaves the bound at the later places; 0 for 1 passes nothing; 1 for 0 passes all
  bound-own : (b : Bool) → is_one v start ≡ b
      → smallest (not_below (v ∷ vs) start P) vs (fixed_at b v r) ≡ smallest (not_below vs start P) vs (fixed_at b v r)
  bound-own true e = same (not_below (v ∷ vs) start P) (not_below vs start P) vs (at_one v r) (bound true true e)
  bound-own false e = same (not_below (v ∷ vs) start P) (not_below vs start P) vs (at_zero v r) (bound false false e)

  bound-below : is_one v start ≡ true → smallest (not_below (v ∷ vs) start P) vs (at_zero v r) ≡ none
  bound-below e =
      same (not_below (v ∷ vs) start P) (λ t. false) vs (at_zero v r) (λ t s. bound false true e t s ∙ and-false (P t)) ∙ nothing vs (at_zero v r)

  bound-above : is_one v start ≡ false → smallest (not_below (v ∷ vs) start P) vs (at_one v r) ≡ smallest P vs (at_one v r)
  bound-above e = same (not_below (v ∷ vs) start P) P vs (at_one v r) (λ t s. bound true false e t s ∙ and-true (P t))

from-free : (P : ℕ → Bool) (start : ℕ) (vs : List ℕ) (r : Row) → Under r → Distinct vs → Free vs r
    → smallest (not_below vs start P) vs r ≡ smallest_from P start vs r
unfolding smallest smaller smallest_from
from-free P start [] r u d f = rw (and-true (P r.value))
from-free P start (v ∷ vs) r u d f =
    let g : fixes r v ≡ false = free-first v vs r f in
    let later : (b : Bool) → smallest (not_below vs start P) vs (fixed_at b v r) ≡ smallest_from P start vs (fixed_at b v r) =
    λ b. from-free P start vs (fixed_at b v r) (fixed-under b v r u g) d.1 (free-rest b v vs r d.0 f) in
    smallest-try (not_below (v ∷ vs) start P) v vs r g ∙ test (is_one v start)
    (λ e. rw (e, bound-below P start v vs r u g e, bound-own P start v vs r u g true e, later true))
    (λ e. rw (e, bound-above P start v vs r u g e, bound-own P start v vs r u g false e, later false))

-- the smallest setting not below the start is what the search from the start on comes to
pub from_is : (n : ℕ) (order : List ℕ) → IsOrder n order → (P : ℕ → Bool) (start : ℕ)
    → smallest (not_below order start P) order dashes ≡ smallest_from P start order dashes
from_is n order o P start = from-free P start order dashes (row_under n dashes (dashes-row n)) o.distinct (λ i h. bit-zero i)

-- where fewer settings pass than those whose smallest is s, the search may go on from s
pub resume-from : (n : ℕ) (order : List ℕ) → IsOrder n order → (P Q : ℕ → Bool) (s : ℕ) → ((t : ℕ) → Q t ≡ true → P t ≡ true)
    → smallest P order dashes ≡ some s → smallest Q order dashes ≡ smallest_from Q s order dashes
resume-from n order o P Q s fewer e = resume n order o P Q s fewer e ∙ from_is n order o Q s
