-- Generation: each row is prime and brings in an on setting not held before; once none is left, every on setting is held.
use mathlib.Core.Path.{◌≡◌, refl, sym, ap, ◌∙◌, subst}
use mathlib.Core.Bool.{Bool, true, false, not, ◌&&◌}
use mathlib.Core.List.{List, [], ◌∷◌, ◌++◌, append_assoc, append-nil}
use mathlib.Core.Option.{Option, none, some}
use Prim.Native.Nat.{ℕ, zero, suc, ◌+◌, ◌-◌, ◌^◌, ◌<◌, ◌≤◌}
use native.Mathlib.Nat.{zero-add, suc-add}
use native.Mathlib.Omega.{arith}
use lib.Dec.{ltb}
use lib.ListN.{length, length-append}
use borrow.Author.Tests.{eqb-true, eq-eqb, ltb-true, ltb-false}
use Rattle.rules.specs.declared.Row.{Row}
use Rattle.rules.specs.Words.{holds, is_row, fixes, fits, dashes, full, without, in_some}
use Rattle.rules.specs.Search.{found}
use Rattle.rules.specs.Method.{next, widen, grown, generated, complete}
use Rattle.rules.proofs.Logic.{test, option, clash, some-none}
use Rattle.std.proofs.lemmas.Bool.{and_parts, and_from, false_from_ne_true, not-true, not_from_false}
use Rattle.rules.proofs.Bits.{bit_high}
use Rattle.rules.proofs.Rows.{dashes-row, dashes-holds, full-row, full-holds}
use Rattle.rules.proofs.Orders.{has, IsOrder}
use Rattle.rules.proofs.Smallest.{smallest-passes, smallest-below, smallest-none}
use Rattle.rules.proofs.Widening.{Misses, Meets, widen-row, widen-holds, widen-misses, widen-tight}

-- Every thing of a list.
abbrev pub All : {A : Type 0} → (A → Type 0) → List A → Type 0
All Q [] = Unit {0}
All Q (x ∷ xs) = Q x × All Q xs

pub all_snoc : {A : Type 0} (Q : A → Type 0) (xs : List A) (y : A) → All Q xs → Q y → All Q (xs ++ (y ∷ []))
all_snoc Q [] y a q = (q, tt)
all_snoc Q (x ∷ xs) y a q = (a.0, all_snoc Q xs y a.1 q)

-- No off setting lies in the row, and no literal can go: without it the row would hold one.
pub record Prime (n : ℕ) (off : ℕ → Bool) (r : Row) : Type 0 where
  pub row : is_row n r ≡ true
  pub misses : Misses n off r
  pub tight : (v : ℕ) → fixes r v ≡ true → Meets n off (without v r)

-- Each row holds an on setting that no row before it holds.
abbrev pub Fresh : ℕ → (ℕ → Bool) → List Row → List Row → Type 0
Fresh n on earlier [] = Unit {0}
Fresh n on earlier (r ∷ rows) =
    ((s : ℕ) × (s < 2 ^ n) × (on s ≡ true) × (holds r s ≡ true) × (in_some earlier s ≡ false)) × Fresh n on (earlier ++ (r ∷ [])) rows

fresh-snoc : (n : ℕ) (on : ℕ → Bool) (earlier rows : List Row) (r : Row) (s : ℕ) → Fresh n on earlier rows → s < 2 ^ n → on s ≡ true
    → holds r s ≡ true → in_some (earlier ++ rows) s ≡ false → Fresh n on earlier (rows ++ (r ∷ []))
fresh-snoc n on earlier [] r s f l h k c = ((s, l, h, k, ap (λ (x : List Row). in_some x s) (sym (append-nil earlier)) ∙ c), tt)
fresh-snoc n on earlier (x ∷ rows) r s f l h k c =
    (f.0, fresh-snoc n on (earlier ++ (x ∷ [])) rows r s f.1 l h k (ap (λ (y : List Row). in_some y s) (append_assoc earlier (x ∷ []) rows) ∙ c))

module _ (order : List ℕ) (on off : ℕ → Bool) where
  abbrev rows_at : ℕ → List Row
  rows_at k = generated order on off k

  -- One step of generation: nothing, or one row more.
  pub step-none : (k : ℕ) → next order on (rows_at k) ≡ none → rows_at (suc k) ≡ rows_at k
  unfolding generated
  step-none k e = ap (grown order off (rows_at k)) e

  pub step-some : (k s : ℕ) → next order on (rows_at k) ≡ some s → rows_at (suc k) ≡ rows_at k ++ (widen order off s ∷ [])
  unfolding generated
  step-some k s e = ap (grown order off (rows_at k)) e

  pub complete-none : (rows : List Row) → complete order on rows ≡ true → next order on rows ≡ none
  complete-none rows h = go (next order on rows) h
    where
      go : (r : Option ℕ) → not (found r) ≡ true → r ≡ none
      go none e = refl
      go (some s) e = clash e refl

  -- The first j generated rows are the beginning of the first k.
  pub begins : (j d : ℕ) → (more : List Row) × (rows_at (d + j) ≡ rows_at j ++ more)
  begins j zero = ([], ap rows_at (zero-add j) ∙ sym (append-nil (rows_at j)))
  begins j (suc d) =
      let b = begins j d in
      option (next order on (rows_at (d + j)))
      (λ e. (b.0, ap rows_at (suc-add d j) ∙ step-none (d + j) e ∙ b.1))
      (λ s e. (
        b.0 ++ (widen order off s ∷ []),
        ap rows_at (suc-add d j) ∙ step-some (d + j) s e
            ∙ ap (λ (l : List Row). l ++ (widen order off s ∷ [])) b.1 ∙ append_assoc (rows_at j) b.0 (widen order off s ∷ []),
      ))

  -- Once none is left, nothing changes.
  pub stopped : (k d : ℕ) → next order on (rows_at k) ≡ none → rows_at (d + k) ≡ rows_at k
  stopped k zero e = ap rows_at (zero-add k)
  stopped k (suc d) e =
      let ih = stopped k d e in
      ap rows_at (suc-add d k) ∙ step-none (d + k) (ap (next order on) ih ∙ e) ∙ ih

  -- k steps give k rows, or fewer and none is left.
  pub size : (k : ℕ) → (length (rows_at k) ≤ k) × ((length (rows_at k) < k) → next order on (rows_at k) ≡ none)
  size zero = (unfold generated in omega arith, λ h. let z : ⊥ = omega arith in absurd z)
  size (suc k) =
      let ih = size k in
      option (next order on (rows_at k))
      (λ e. let s = step-none k e in (rw s (omega (arith, ih.0)), λ h. rw s e))
      (λ t e. let s = step-some k t e in
      let l : length (rows_at (suc k)) ≡ length (rows_at k) + 1 = ap length s ∙ length-append (rows_at k) (widen order off t ∷ []) in
      (omega (arith, ih.0), λ h. some-none e (ih.1 (omega arith))))

module _ (n : ℕ) (order : List ℕ) (o : IsOrder n order) (on off : ℕ → Bool) where
  -- The next setting is on and in no row so far; where there is none, every on setting is held.
  pub next-is : (rows : List Row) (s : ℕ) → next order on rows ≡ some s → (s < 2 ^ n) × (on s ≡ true) × (in_some rows s ≡ false)
  unfolding next
  next-is rows s e =
      let P : ℕ → Bool = λ s. on s && not (in_some rows s) in
      let p = and_parts (on s) (not (in_some rows s)) (smallest-passes n order o P dashes (dashes-row n) s e) in
      (smallest-below n order o P dashes (dashes-row n) s e, p.0, not-true (in_some rows s) p.1)

  pub next-none : (rows : List Row) → next order on rows ≡ none → (s : ℕ) → s < 2 ^ n → on s ≡ true → in_some rows s ≡ true
  unfolding next
  next-none rows e s l h =
      test (in_some rows s) (λ q. q)
      (λ q. clash (and_from _ _ h (not_from_false _ q)) (smallest-none n order o (λ s. on s && not (in_some rows s)) dashes (dashes-row n) e s l (dashes-holds s)))

  -- A setting's widened row is a row, and holds the setting.
  pub start-row : (s : ℕ) → s < 2 ^ n → is_row n (full (length order) s) ≡ true
  start-row s l = subst (λ (m : ℕ). is_row n (full m s) ≡ true) (sym o.size) (full-row n s l)

  pub widened-row : (s : ℕ) → s < 2 ^ n → is_row n (widen order off s) ≡ true
  unfolding widen
  widened-row s l = widen-row n order o off order (full (length order) s) (start-row s l)

  pub widened-holds : (s : ℕ) → s < 2 ^ n → holds (widen order off s) s ≡ true
  unfolding widen
  widened-holds s l =
      widen-holds n order o off order (full (length order) s) (start-row s l) s
      (subst (λ (m : ℕ). holds (full m s) s ≡ true) (sym o.size) (full-holds n s s l ∙ eq-eqb s s refl))

  -- What holds of no rows, and stays when a next setting's row is added, holds of all that is generated.
  pub generate-ind : (Q : List Row → Type 0) → Q []
      → ((rows : List Row) (s : ℕ) → s < 2 ^ n → on s ≡ true → in_some rows s ≡ false → Q rows → Q (rows ++ (widen order off s ∷ [])))
      → (k : ℕ) → Q (generated order on off k)
  generate-ind Q base step zero = unfold generated in base
  generate-ind Q base step (suc k) =
      let ih = generate-ind Q base step k in
      option (next order on (generated order on off k))
      (λ e. subst Q (sym (step-none order on off k e)) ih)
      (λ s e. let p = next-is (generated order on off k) s e in
      subst Q (sym (step-some order on off k s e)) (step (generated order on off k) s p.0 p.1 p.2 ih))

  pub generated-fresh : (k : ℕ) → Fresh n on [] (generated order on off k)
  generated-fresh =
      generate-ind (Fresh n on []) tt (λ rows s l h c q. fresh-snoc n on [] rows (widen order off s) s q l h (widened-holds s l) c)

  pub generated-rows : (k : ℕ) → All (λ r. is_row n r ≡ true) (generated order on off k)
  generated-rows =
      generate-ind (All (λ r. is_row n r ≡ true)) tt (λ rows s l h c q. all_snoc (λ r. is_row n r ≡ true) rows (widen order off s) q (widened-row s l))

  module _ (apart : (s : ℕ) → s < 2 ^ n → on s ≡ true → off s ≡ false) where
    -- The row of all literals of an on setting holds no off setting.
    start-misses : (s : ℕ) → s < 2 ^ n → on s ≡ true → Misses n off (full (length order) s)
    start-misses s l h t k f =
        false_from_ne_true _ (λ e. clash (subst (λ (x : ℕ). off x ≡ true) (eqb-true t s (sym (full-holds n s t k) ∙ subst (λ (m : ℕ). holds (full m s) t ≡ true) o.size e)) f) (apart s l h))

    -- A variable that a row of n inputs fixes has a place in the order.
    fixed-place : (r : Row) (v : ℕ) → is_row n r ≡ true → fixes r v ≡ true → has (v - 1) order ≡ true
    fixed-place r v w h =
        let b = and_parts (fits n r.care) _ w in
        test (ltb (v - 1) n)
        (λ q. o.every (v - 1) (ltb-true (v - 1) n q))
        (λ q. clash h (bit_high n (v - 1) r.care (ltb-true r.care (2 ^ n) b.0) (ltb-false (v - 1) n q)))

    pub widened-prime : (s : ℕ) → s < 2 ^ n → on s ≡ true → Prime n off (widen order off s)
    widened-prime s l h = record {
      row = widened-row s l;
      misses = unfold widen in widen-misses n order o off order (full (length order) s) (start-row s l) (start-misses s l h);
      tight = λ v c. unfold widen in widen-tight n order o off order (full (length order) s) (start-row s l) v (fixed-place (widen order off s) v (widened-row s l) c) c;
    }

    pub generated-prime : (k : ℕ) → All (Prime n off) (generated order on off k)
    generated-prime =
        generate-ind (All (Prime n off)) tt (λ rows s l h c q. all_snoc (Prime n off) rows (widen order off s) q (widened-prime s l h))
