-- Widening: what a row keeps, and that no literal that stayed can go.
use mathlib.Core.Path.{◌≡◌, refl, sym, ap, ◌∙◌, subst}
use mathlib.Core.Bool.{Bool, true, false, cond}
use mathlib.Core.List.{List, [], ◌∷◌}
use Prim.Native.Nat.{ℕ, ◌-◌, ◌^◌, ◌<◌}
use lib.Bits.{bit_and}
use lib.Dec.{eqb}
use borrow.Author.Tests.{eqb-true}
use Rattle.rules.specs.declared.Row.{Row}
use Rattle.rules.specs.Words.{holds, is_row, fixes, without}
use Rattle.rules.specs.Search.{holds_some}
use Rattle.rules.specs.Method.{widen_at}
use Rattle.rules.proofs.Logic.{test, either, clash}
use Rattle.std.proofs.lemmas.Bool.{or_cases, false_from_ne_true}
use Rattle.rules.proofs.Bits.{bit}
use Rattle.rules.proofs.Rows.{without-holds, without-comm, without-fixes, without-keeps, without-row}
use Rattle.rules.proofs.Orders.{has, IsOrder}
use Rattle.rules.proofs.Smallest.{some-yes, some-no}

-- No off setting of n inputs lies in the row.
abbrev pub Misses : ℕ → (ℕ → Bool) → Row → Type 0
Misses n off r = (s : ℕ) → s < 2 ^ n → off s ≡ true → holds r s ≡ false

-- Some off setting lies in the row.
abbrev pub Meets : ℕ → (ℕ → Bool) → Row → Type 0
Meets n off r = (s : ℕ) × (s < 2 ^ n) × (off s ≡ true) × (holds r s ≡ true)

module _ (n : ℕ) (order : List ℕ) (o : IsOrder n order) (off : ℕ → Bool) where
  abbrev widened : List ℕ → Row → Row
  widened vs r = widen_at vs order off r

  stays : (v : ℕ) (vs : List ℕ) (r : Row) → holds_some off order (without v r) ≡ true → widened (v ∷ vs) r ≡ widened vs r
  unfolding widen_at
  stays v vs r e = ap (λ (b : Bool). widen_at vs order off (cond b r (without v r))) e

  goes : (v : ℕ) (vs : List ℕ) (r : Row) → holds_some off order (without v r) ≡ false → widened (v ∷ vs) r ≡ widened vs (without v r)
  unfolding widen_at
  goes v vs r e = ap (λ (b : Bool). widen_at vs order off (cond b r (without v r))) e

  -- What a row has, and keeps where a literal goes, it has after widening.
  widen-ind : (Q : Row → Type 0) → ((v : ℕ) (r : Row) → is_row n r ≡ true → holds_some off order (without v r) ≡ false → Q r → Q (without v r))
      → (vs : List ℕ) (r : Row) → is_row n r ≡ true → Q r → Q (widened vs r)
  widen-ind Q step [] r w q = unfold widen_at in q
  widen-ind Q step (v ∷ vs) r w q =
      test (holds_some off order (without v r))
      (λ e. subst Q (sym (stays v vs r e)) (widen-ind Q step vs r w q))
      (λ e. subst Q (sym (goes v vs r e)) (widen-ind Q step vs (without v r) (without-row n v r w) (step v r w e q)))

  module _ (vs : List ℕ) (r : Row) (w : is_row n r ≡ true) where
    pub widen-row : is_row n (widened vs r) ≡ true
    widen-row = widen-ind (λ r. is_row n r ≡ true) (λ v r w e q. without-row n v r q) vs r w w

    pub widen-holds : (s : ℕ) → holds r s ≡ true → holds (widened vs r) s ≡ true
    widen-holds s = widen-ind (λ r. holds r s ≡ true) (λ v r w e q. without-holds v r s q) vs r w

    pub widen-misses : Misses n off r → Misses n off (widened vs r)
    widen-misses = widen-ind (Misses n off) (λ v r w e q s l f. false_from_ne_true _ (λ h. clash f (some-no n order o off (without v r) (without-row n v r w) e s l h))) vs r w

    -- What is held without v's literal is held so after further widening.
    widen-under : (v s : ℕ) → holds (without v r) s ≡ true → holds (without v (widened vs r)) s ≡ true
    widen-under v s =
        widen-ind (λ r. holds (without v r) s ≡ true)
        (λ x r w e q. subst (λ (y : Row). holds y s ≡ true) (without-comm x v r) (without-holds x (without v r) s q)) vs r w

    widen_keeps : (v : ℕ) → fixes r v ≡ false → fixes (widened vs r) v ≡ false
    widen_keeps v = widen-ind (λ r. fixes r v ≡ false) (λ x r w e q. without-keeps x v r q) vs r w

  -- v's literal stays only where the row without it holds an off setting.
  abbrev Tight : Row → ℕ → Type 0
  Tight r v = fixes r v ≡ true → Meets n off (without v r)

  same-without : (v x : ℕ) (r : Row) (s : ℕ) → x - 1 ≡ v - 1 → holds (without x r) s ≡ true → holds (without v r) s ≡ true
  same-without v x r s e h =
      subst (λ (k : ℕ). holds (record { care = r.care - bit_and r.care (2 ^ k); value = r.value - bit_and r.value (2 ^ k) }) s ≡ true) e h

  tight-here : (x v : ℕ) (vs : List ℕ) (r : Row) → is_row n r ≡ true → x - 1 ≡ v - 1 → Tight (widened (x ∷ vs) r) v
  tight-here x v vs r w q c =
      test (holds_some off order (without x r))
      (λ e. let p = some-yes n order o off (without x r) (without-row n x r w) e in (
        p.0,
        p.1,
        p.3,
        subst (λ (y : Row). holds (without v y) p.0 ≡ true) (sym (stays x vs r e))
            (widen-under vs r w v p.0 (same-without v x r p.0 q p.2)),
      ))
      (λ e. clash c (ap (λ (y : Row). fixes y v) (goes x vs r e)
      ∙ widen_keeps vs (without x r) (without-row n x r w) v (ap (λ (k : ℕ). bit k (without x r).care) (sym q) ∙ without-fixes x r)))

  pub widen-tight : (vs : List ℕ) (r : Row) → is_row n r ≡ true → (v : ℕ) → has (v - 1) vs ≡ true → Tight (widened vs r) v
  unfolding has
  widen-tight [] r w v h = clash h refl
  widen-tight (x ∷ vs) r w v h =
      either (or_cases (eqb (x - 1) (v - 1)) (has (v - 1) vs) h)
      (λ q. tight-here x v vs r w (eqb-true (x - 1) (v - 1) q))
      (λ q. test (holds_some off order (without x r))
      (λ e. subst (λ (y : Row). Tight y v) (sym (stays x vs r e)) (widen-tight vs r w v q))
      (λ e. subst (λ (y : Row). Tight y v) (sym (goes x vs r e)) (widen-tight vs (without x r) (without-row n x r w) v q)))
