-- The form of a sheet and of an order, as the tests of single numbers give it.
use mathlib.Core.Path.{◌≡◌, refl, sym, ap, ◌∙◌}
use mathlib.Core.Bool.{Bool, true, false, cond, ◌&&◌, and-true, and_assoc}
use mathlib.Core.List.{List, [], ◌∷◌, map}
use Prim.Native.Nat.{ℕ, suc, ◌+◌, ◌-◌, ◌≤◌, ◌<◌}
use native.Mathlib.Nat.{zero-add, add-zero}
use lib.Dec.{eqb, leb}
use lib.IntN.{ℤ}
use lib.ListN.{length, length-map, get_or, take, drop, drop_of_length-le}
use lib.Seq.{take_all, drop-cons}
use mir.Val.{bool_byte}
use Rattle.std.specs.Prelude.{Option, Some, None, MatchOption, IfSome, slice_get}
use native.Mathlib.Numerals.{add-one}
use native.Mathlib.Omega.{arith}
use Rattle.std.specs.List.{count_by}
use Rattle.std.proofs.lemmas.List.Recursion.{is_count_by}
use Rattle.std.proofs.lemmas.List.Sums.{count_by_more_yes, count_by_more_no}
use Rattle.rules.specs.Words.{one, times}
use Rattle.rules.proofs.Logic.{test}
use Rattle.rules.specs.Sheets.{max_numbers, max_clauses, variable, closes, clauses, ends_closed, in_reach, well_formed}

one-more : (b : Bool) (k : ℕ) → one b + k ≡ cond b (1 + k) k
one-more true k = refl
one-more false k = zero-add k

pub times-count : (v : ℕ) (order : List ℕ) → count_by (λ w. eqb w v) order ≡ times v order
unfolding times
times-count v order = sym (is_count_by (times v) (λ w. eqb w v) refl (λ w ws. one-more (eqb w v) (times v ws)) order)

-- what holds in a loop that has passed i items, and counted those that pass the test
abbrev pub Counted : {A : Type 0} → (A → Bool) → List A → ℕ → ℕ → Type 0
Counted p xs i found = (found ≡ count_by p (take i xs)) × (found ≤ i)

module _ {A : Type 0} (p : A → Bool) (xs : List A) (i found : ℕ) (inv : Counted p xs i found) where
  pub one-counted : i < length xs → (d : A) (more : ℕ) → more ≡ bool_byte (p (get_or xs i d)) → Counted p xs (i + 1) (found + more)
  one-counted h d more e =
      test (p (get_or xs i d))
      (λ y. let m : more ≡ 1 = rw y at e in (rw (m, inv.0) (sym (count_by_more_yes p xs i d h y)), omega (arith, inv.1, m)))
      (λ n. let m : more ≡ 0 = rw n at e in (rw (m, inv.0, add-zero) (sym (count_by_more_no p xs i d h n)), omega (arith, inv.1, m)))

  pub all-counted : length xs ≤ i → found ≡ count_by p xs
  all-counted h = inv.0 ∙ ap (count_by p) (take_all i xs h)

-- numbers that are lent as something else
module _ {A : Type 0} (number : A → ℤ) where
  pub clauses-count : (xs : List A) → count_by (λ x. closes (number x)) xs ≡ clauses (map number xs)
  unfolding clauses
  clauses-count xs =
      sym (is_count_by (λ ys. clauses (map number ys)) (λ x. closes (number x)) refl (λ y ys. one-more (closes (number y)) (clauses (map number ys))) xs)

  -- what holds in a loop that has looked at i numbers, and found whether all of them lie within n
  abbrev pub Within : ℕ → List A → ℕ → Bool → Type 0
  Within n xs i all = (all && in_reach n (map number (drop i xs))) ≡ in_reach n (map number xs)

  module _ (n : ℕ) (xs : List A) (i : ℕ) (all : Bool) (inv : Within n xs i all) where
    pub one-within : i < length xs → (x : A) → x ≡ get_or xs i x → (b : Bool) → b ≡ leb (variable (number x)) n → Within n xs (i + 1) (all && b)
    unfolding in_reach
    one-within h x e b d =
        let s : x ∷ drop (i + 1) xs ≡ drop i xs = rw add-one (ap (λ y. y ∷ drop (suc i) xs) e ∙ sym (drop-cons xs i x h)) in
        rw d (and_assoc all (leb (variable (number x)) n) (in_reach n (map number (drop (i + 1) xs))) ∙ ap (λ ys. all && in_reach n (map number ys)) s ∙ inv)

    pub all-within : length xs ≤ i → all ≡ in_reach n (map number xs)
    unfolding in_reach
    all-within h = sym (ap (λ ys. all && in_reach n (map number ys)) (drop_of_length-le xs h) ∙ and-true all) ∙ inv

  -- the last number, if there is one
  last-closes : (closed b : Bool) (x : A) (xs : List A) → IfSome (slice_get (x ∷ xs) (length xs)) (λ y. b ≡ closes (number y))
      → b ≡ ends_closed closed (map number (x ∷ xs))
  unfolding ends_closed
  last-closes closed b x [] h = h
  last-closes closed b x (y ∷ ys) h = last-closes (closes (number x)) b y ys h

  if-some : (P : A → Type 0) (b : Bool) (o : Option A) → MatchOption o (b ≡ true) P → IfSome o P
  if-some P b None h = tt
  if-some P b (Some x) h = h

  pub ends-closed : (b : Bool) (xs : List A) → MatchOption (slice_get xs (length xs - 1)) (b ≡ true) (λ y. b ≡ closes (number y))
      → b ≡ ends_closed true (map number xs)
  unfolding ends_closed
  ends-closed b [] h = h
  ends-closed b (x ∷ xs) h =
      let e : length (x ∷ xs) - 1 ≡ length xs = omega arith in
      last-closes true b x xs (if-some (λ y. b ≡ closes (number y)) b (slice_get (x ∷ xs) (length xs)) (rw e at h))

  -- the tests of the whole, one after another
  pub formed : (n : ℕ) (xs : List A) → let zs = map number xs in
      well_formed n zs ≡ (((leb (length xs) max_numbers && leb (clauses zs) max_clauses) && ends_closed true zs) && in_reach n zs)
  unfolding well_formed
  formed n xs =
      let zs = map number xs in
      rw (length-map xs number)
      (sym (and_assoc (leb (length xs) max_numbers && leb (clauses zs) max_clauses) (ends_closed true zs) (in_reach n zs)
      ∙ and_assoc (leb (length xs) max_numbers) (leb (clauses zs) max_clauses) (ends_closed true zs && in_reach n zs)))
