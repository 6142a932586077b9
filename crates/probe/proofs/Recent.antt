-- The search for the next setting goes from the last one on, so of the full rows found so far it need avoid only the last.
use mathlib.Core.Path.{◌≡◌, refl, sym, ap, ◌∙◌, subst}
use mathlib.Core.Bool.{Bool, true, false, not, ◌&&◌, ◌||◌, and-false}
use mathlib.Core.List.{List, [], ◌∷◌, ◌++◌}
use mathlib.Core.Option.{some}
use Prim.Native.Nat.{ℕ, ◌^◌, ◌<◌}
use lib.Dec.{eqb}
use lib.IntN.{ℤ}
use borrow.Author.Tests.{eqb-true, eq-eqb}
use Rattle.rules.specs.declared.Row.{Row}
use Rattle.rules.specs.Words.{is_one, smaller, holds, full, dashes, in_some}
use Rattle.rules.specs.Search.{smallest, not_below}
use Rattle.rules.specs.Method.{next}
use Rattle.rules.proofs.Logic.{test, either, clash, both_ways}
use Rattle.std.proofs.lemmas.Bool.{and_from, or_cases, or_left, or_right, not_from_false, or_parts}
use Rattle.rules.proofs.Rows.{dashes-row, dashes-holds, full-holds, in_some-append, in_some-one}
use Rattle.rules.proofs.Orders.{IsOrder}
use Rattle.rules.proofs.Smallest.{Least, found-smallest, smallest-least, smallest-same}
use Rattle.rules.proofs.Generation.{next-is}
use Rattle.search.specs.Question.{good}
use Rattle.method.proofs.Next.{good-append, unheld}

-- A row more.
one-more-row : (rows : List Row) (r : Row) (s : ℕ) → in_some (rows ++ (r ∷ [])) s ≡ (in_some rows s || holds r s)
one-more-row rows r s = in_some-append rows (r ∷ []) s ∙ ap (λ (b : Bool). in_some rows s || b) (in_some-one r s)

not-smaller : (order : List ℕ) (s : ℕ) → smaller order s s ≡ false
unfolding smaller
not-smaller [] s = refl
not-smaller (v ∷ vs) s = test (is_one v s) (λ e. rw e (not-smaller vs s)) (λ e. rw e (not-smaller vs s))

module _ (n : ℕ) (order : List ℕ) (on : ℕ → Bool) where
  -- No setting that is still sought is smaller than one that some row holds.
  abbrev pub Onward : List Row → Type 0
  Onward rows = (t u : ℕ) → t < 2 ^ n → u < 2 ^ n → in_some rows t ≡ true → on u ≡ true → in_some rows u ≡ false → smaller order u t ≡ false

  -- Rows that stand for all of them where the search goes on.
  pub record Recent (last : ℕ) (rows recent : List Row) : Type 0 where
    pub among : (t : ℕ) → in_some recent t ≡ true → in_some rows t ≡ true
    pub enough : (t : ℕ) → t < 2 ^ n → on t ≡ true → smaller order t last ≡ false → in_some rows t ≡ true → in_some recent t ≡ true

  pub recent-none : Recent 0 [] []
  recent-none = record { among = λ t h. h; enough = λ t l p k h. h }

module _ (n : ℕ) (order : List ℕ) (o : IsOrder n order) where
  -- Two settings of which neither is smaller are one: each is the smallest of the two.
  module _ (s t : ℕ) where
    either_one : ℕ → Bool
    either_one u = eqb u s || eqb u t

    least-of : (u : ℕ) → u < 2 ^ n → either_one u ≡ true → smaller order s u ≡ false → smaller order t u ≡ false → Least n order either_one dashes u
    unfolding either_one
    least-of u l p a b = record {
      below = l;
      held = dashes-holds u;
      passed = p;
      least = λ w k h q. either (or_cases (eqb w s) (eqb w t) q)
          (λ e. subst (λ (x : ℕ). smaller order x u ≡ false) (sym (eqb-true w s e)) a)
          (λ e. subst (λ (x : ℕ). smaller order x u ≡ false) (sym (eqb-true w t e)) b);
    }

    pub neither-smaller : s < 2 ^ n → t < 2 ^ n → smaller order s t ≡ false → smaller order t s ≡ false → s ≡ t
    unfolding either_one
    neither-smaller k l a b =
        let f = (found-smallest n order o either_one dashes (dashes-row n) s).1 (least-of s k (or_left _ (eqb s t) (eq-eqb s s refl)) (not-smaller order s) b) in
        let g = (found-smallest n order o either_one dashes (dashes-row n) t).1 (least-of t l (or_right (eqb t s) _ (eq-eqb t t refl)) a (not-smaller order t)) in
        cc

  module _ (on : ℕ → Bool) where
    module _ (rows : List Row) (s : ℕ) (e : next order on rows ≡ some s) (onward : Onward n order on rows) where
      -- The next setting's full row holds it alone.
      own : (t : ℕ) → t < 2 ^ n → holds (full n s) t ≡ true → t ≡ s
      own t l h = eqb-true t s (sym (full-holds n s t l) ∙ h)

      pub onward-more : Onward n order on (rows ++ (full n s ∷ []))
      unfolding next
      onward-more t u l k h p q =
          let b = or_parts (in_some rows u) (holds (full n s) u) (sym (one-more-row rows (full n s) u) ∙ q) in
          either (or_cases (in_some rows t) (holds (full n s) t) (sym (one-more-row rows (full n s) t) ∙ h))
          (λ a. onward t u l k a p b.0)
          (λ a. subst (λ (x : ℕ). smaller order u x ≡ false) (sym (own t l a))
          (smallest-least n order o (unheld on rows) dashes (dashes-row n) s e u k (dashes-holds u) (and_from _ _ p (not_from_false _ b.0))))

      -- From it on no other row is needed.
      pub recent-more : (some_rows : List Row) → ((t : ℕ) → in_some some_rows t ≡ true → in_some rows t ≡ true)
          → Recent n order on s (rows ++ (full n s ∷ [])) (some_rows ++ (full n s ∷ []))
      recent-more some_rows among =
          let f = next-is n order o on (λ t. true) rows s e in
          record {
            among = λ t h. one-more-row rows (full n s) t
                ∙ either (or_cases (in_some some_rows t) (holds (full n s) t) (sym (one-more-row some_rows (full n s) t) ∙ h))
                (λ a. or_left _ (holds (full n s) t) (among t a))
                (λ a. or_right (in_some rows t) _ a);
            enough = λ t l p k h. one-more-row some_rows (full n s) t
                ∙ either (or_cases (in_some rows t) (holds (full n s) t) (sym (one-more-row rows (full n s) t) ∙ h))
                (λ a. let same : t ≡ s = neither-smaller t s l f.0 k (onward t s l f.0 a f.1 f.2) in
                clash (subst (λ (x : ℕ). in_some rows x ≡ true) same a) f.2)
                (λ a. or_right (in_some some_rows t) _ a);
          }

-- So the search finds the same.
module _ (n : ℕ) (order : List ℕ) (o : IsOrder n order) (sheet : List ℤ) (barred : List Row) where
  outside-alike : (on : Bool) (below a b : Bool) → (below ≡ false → on ≡ true → a ≡ b) → ((on && not a) && not below) ≡ ((on && not b) && not below)
  outside-alike false below a b h = refl
  outside-alike true true a b h = and-false (not a) ∙ sym (and-false (not b))
  outside-alike true false a b h = ap (λ (c : Bool). not c && true) (h refl refl)

  pub recent-found : (last : ℕ) (rows recent : List Row) → Recent n order (good sheet [] barred) last rows recent
      → smallest (not_below order last (good sheet [] (barred ++ recent))) order dashes ≡ smallest (not_below order last (good sheet [] (barred ++ rows))) order dashes
  recent-found last rows recent w =
      smallest-same n order o (not_below order last (good sheet [] (barred ++ recent))) dashes (dashes-row n) (not_below order last (good sheet [] (barred ++ rows)))
      (λ t l h. ap (λ (b : Bool). b && not (smaller order t last)) (good-append sheet [] barred recent t)
      ∙ outside-alike (good sheet [] barred t) (smaller order t last) (in_some recent t) (in_some rows t)
      (λ k p. both_ways (in_some recent t) (in_some rows t) (w.among t) (w.enough t l p k))
      ∙ ap (λ (b : Bool). b && not (smaller order t last)) (sym (good-append sheet [] barred rows t)))
