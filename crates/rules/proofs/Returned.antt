-- What a refusal returns: only its number, plus, for sheets that collide, the smallest setting both ask for.
use mathlib.Core.Path.{◌≡◌, refl, sym, ap, ◌∙◌, subst}
use mathlib.Core.Bool.{Bool, true, false, ◌&&◌}
use mathlib.Core.List.{List, [], ◌∷◌, ◌++◌}
use mathlib.Core.Logic.{◌⊎◌, inl, inr, ◌↔◌}
use mathlib.Core.Option.{Option, some}
use Prim.Native.Nat.{ℕ, suc, ◌^◌, ◌<◌}
use native.Mathlib.Omega.{arith}
use lib.Dec.{eqb, ltb}
use lib.IntN.{ℤ}
use lib.ListN.{length}
use borrow.Author.Tests.{eqb-true}
use Rattle.rules.specs.Words.{is_order, dashes}
use Rattle.rules.specs.Sheets.{satisfies}
use Rattle.rules.specs.Search.{found}
use Rattle.rules.specs.Method.{max_rows}
use Rattle.rules.specs.Answers.{Reply, Check, check, Verdict, refused, judge}
use Rattle.rules.specs.Calls.{Run, first, listed, collision, refusal2, refusal6, form, whole_for, whole, partial_for, partial}
use Rattle.rules.proofs.Logic.{test, either, option, clash}
use Rattle.std.proofs.lemmas.Bool.{and_parts, not-false}
use Rattle.rules.proofs.Rows.{dashes-row}
use Rattle.rules.proofs.Orders.{IsOrder, is-order}
use Rattle.rules.proofs.Smallest.{Least, found-smallest}
use Rattle.rules.proofs.Judged.{NoneApply, refused-inj, given-not-refused, judge-none, judge-applies, judge-passes, judge-first}
use Rattle.rules.proofs.Refusals.{Judges}
use Rattle.rules.proofs.Listed.{no-collision}

-- Every reply of these checks is its number alone.
abbrev pub bare : List Check → Bool
bare [] = true
bare (c ∷ cs) = eqb (length c.reply.values) 0 && bare cs

no-values : (vs : List ℕ) → eqb (length vs) 0 ≡ true → vs ≡ []
no-values [] h = refl
no-values (v ∷ vs) h = let e : suc (length vs) ≡ 0 = eqb-true (length (v ∷ vs)) 0 h in let w : ⊥ = omega arith in absurd w

-- A setting returned is more than the number.
returned-not-bare {ℓ} : {C : Type ℓ} {s : ℕ} → ◌≡◌ {A = List ℕ} (s ∷ []) [] → C
returned-not-bare h = let e : ◌≡◌ {A = ℕ} 1 0 = ap length h in let w : ⊥ = omega arith in absurd w

module _ {A : Type 0} (a : A) where
  bare-reply : (cs : List Check) {r : Reply} → bare cs ≡ true → judge cs a ≡ refused r → r.values ≡ []
  bare-reply [] b h = given-not-refused (judge-none a [] tt) h
  bare-reply (c ∷ cs) b h =
      let (mine, more) = and_parts (eqb (length c.reply.values) 0) (bare cs) b in
      test c.applies (λ t. subst (λ r. r.values ≡ []) (refused-inj {A = A} (sym (judge-applies a c cs t) ∙ h)) (no-values c.reply.values mine))
      λ f. bare-reply cs more (sym (judge-passes a c cs f) ∙ h)

  -- Of checks of which all but one are bare: the reply is bare, or it is the one's, and none before it applies.
  bare-but-one : (before : List Check) (c : Check) (later : List Check) {r : Reply} → bare before ≡ true → bare later ≡ true
      → judge (before ++ (c ∷ later)) a ≡ refused r → (r.values ≡ []) ⊎ (NoneApply before × (c.applies ≡ true) × (c.reply ≡ r))
  bare-but-one [] c later p q h =
      test c.applies (λ t. inr (tt, t, refused-inj {A = A} (sym (judge-applies a c later t) ∙ h)))
      λ f. inl (bare-reply later q (sym (judge-passes a c later f) ∙ h))
  bare-but-one (b ∷ before) c later p q h =
      let cs = before ++ (c ∷ later) in
      let (mine, more) = and_parts (eqb (length b.reply.values) 0) (bare before) p in
      test b.applies (λ t. inl (subst (λ r. r.values ≡ []) (refused-inj {A = A} (sym (judge-applies a b cs t) ∙ h)) (no-values b.reply.values mine)))
      λ f. either (bare-but-one before c later more q (sym (judge-passes a b cs f) ∙ h)) inl λ x. inr ((f, x.0), x.1, x.2)

-- A call without refusal 6 returns only the number.
pub only-number : {A : Type 0} {v : Verdict A} {cs : List Check} {a : A} {r : Reply} → Judges v cs a → bare cs ≡ true → v ≡ refused r → r.values ≡ []
only-number {cs} {a} j b h = bare-reply a cs b (sym j.judged ∙ h)

-- The reply of a collision at s.
abbrev pub collides : ℕ → Reply
collides s = record { number = 6; values = s ∷ [] }

abbrev reply6 : Option ℕ → Reply
reply6 c = record { number = 6; values = listed c }

-- Some setting is on and off; and s is the smallest that is.
abbrev SomeBoth : ℕ → (ℕ → Bool) → (ℕ → Bool) → Type 0
SomeBoth n on off = (u : ℕ) × (u < 2 ^ n) × (on u ≡ true) × (off u ≡ true)

abbrev LeastBoth : ℕ → List ℕ → (ℕ → Bool) → (ℕ → Bool) → ℕ → Type 0
LeastBoth n order on off s = Least n order (λ u. on u && off u) dashes s

module _ (n : ℕ) (order : List ℕ) (o : IsOrder n order) (on off : ℕ → Bool) where
  collision-smallest : (s : ℕ) → (collision order on off ≡ some s) ↔ LeastBoth n order on off s
  unfolding collision
  collision-smallest s = found-smallest n order o (λ u. on u && off u) dashes (dashes-row n) s

  some-smallest : SomeBoth n on off → (s : ℕ) × LeastBoth n order on off s
  some-smallest x =
      option (collision order on off)
      (λ e. clash x.3 (no-collision n order o on off e x.0 x.1 x.2))
      (λ s e. (s, (collision-smallest s).0 e))

-- Refusal 6 among others, of which those before it see to the order.
module _ {A : Type 0} (a : A) (n : ℕ) (order : List ℕ) (on off : ℕ → Bool) (before later : List Check) (p : bare before ≡ true) (q : bare later ≡ true)
    (o : NoneApply before → IsOrder n order) where
  abbrev verdict : Verdict A
  verdict = judge (before ++ (refusal6 order on off ∷ later)) a

  pub only-number-or-smallest : {r : Reply} → verdict ≡ refused r → (r.values ≡ []) ⊎ ((s : ℕ) × (r ≡ collides s) × LeastBoth n order on off s)
  only-number-or-smallest h =
      either (bare-but-one a before (refusal6 order on off) later p q h) inl λ x. inr
      (option (collision order on off)
      (λ e. clash x.1 (ap found e))
      (λ s e. (s, sym x.2 ∙ ap reply6 e, (collision-smallest n order (o x.0) on off s).0 e)))

  -- It is given exactly if none before it applies, with the smallest setting; that is, exactly if some setting is on and off.
  pub refused-6 : (s : ℕ) → (verdict ≡ refused (collides s)) ↔ (NoneApply before × LeastBoth n order on off s)
  refused-6 s = (
    λ h. (
      either (bare-but-one a before (refusal6 order on off) later p q h) returned-not-bare (λ y. y.0),
      either (only-number-or-smallest h) returned-not-bare λ x. subst (LeastBoth n order on off) (ap (λ r. first r.values) (sym x.1)) x.2,
    ),
    λ y. let e = (collision-smallest n order (o y.0) on off s).1 y.1 in
        judge-first a before (refusal6 order on off) later y.0 (ap found e) ∙ ap (λ c. refused (reply6 c)) e,
  )

  pub refused-both : ((s : ℕ) × (verdict ≡ refused (collides s))) ↔ (NoneApply before × SomeBoth n on off)
  refused-both = (
    λ x. let y = (refused-6 x.0).0 x.1 in let b = and_parts (on x.0) (off x.0) y.1.passed in (y.0, (x.0, y.1.below, b.0, b.1)),
    λ y. let s = some-smallest n order (o y.0) on off y.1 in (s.0, (refused-6 s.0).1 (y.0, s.1)),
  )

-- What is judged before a collision in a partial list.
abbrev pub partial_form : ℕ → Run ℕ → Run ℤ → Run ℤ → ℕ → List Check
partial_form n order on off k = form n order on off ++ (check 5 (ltb max_rows k) ∷ [])

formed : (n : ℕ) (order : Run ℕ) → (refusal2 n order).applies ≡ false → IsOrder n order.items
formed n order h = is-order n order.items (and_parts order.is_whole (is_order n order.items) (not-false _ h)).1

-- The two calls in which sheets may collide.
module _ (n : ℕ) (order : Run ℕ) (on off : Run ℤ) where
  -- Some setting satisfies both sheets; and s is the smallest that does.
  abbrev pub Collide : Type 0
  Collide = SomeBoth n (satisfies on.items) (satisfies off.items)

  abbrev pub SmallestBoth : ℕ → Type 0
  SmallestBoth s = LeastBoth n order.items (satisfies on.items) (satisfies off.items) s

  -- Only the number; or 6, and the smallest setting that both ask for.
  abbrev pub NumberOrSmallest : Reply → Type 0
  NumberOrSmallest r = (r.values ≡ []) ⊎ ((s : ℕ) × (r ≡ collides s) × SmallestBoth s)

  pub whole-reply : (room : ℕ) {r : Reply} → whole n order on off room ≡ refused r → NumberOrSmallest r
  unfolding whole_for whole
  whole-reply room h = only-number-or-smallest _ n order.items _ _ (form n order on off) _ refl refl (λ f. formed n order f.1.0) h

  pub whole-6 : (room s : ℕ) → (whole n order on off room ≡ refused (collides s)) ↔ (NoneApply (form n order on off) × SmallestBoth s)
  unfolding whole_for whole
  whole-6 room s = refused-6 _ n order.items _ _ (form n order on off) _ refl refl (λ f. formed n order f.1.0) s

  pub whole-both : (room : ℕ) → ((s : ℕ) × (whole n order on off room ≡ refused (collides s))) ↔ (NoneApply (form n order on off) × Collide)
  unfolding whole_for whole
  whole-both room = refused-both _ n order.items _ _ (form n order on off) _ refl refl (λ f. formed n order f.1.0)

  pub partial-reply : (k room : ℕ) {r : Reply} → partial n order on off k room ≡ refused r → NumberOrSmallest r
  unfolding partial_for partial
  partial-reply k room h = only-number-or-smallest _ n order.items _ _ (partial_form n order on off k) _ refl refl (λ f. formed n order f.1.0) h

  pub partial-6 : (k room s : ℕ) → (partial n order on off k room ≡ refused (collides s)) ↔ (NoneApply (partial_form n order on off k) × SmallestBoth s)
  unfolding partial_for partial
  partial-6 k room s = refused-6 _ n order.items _ _ (partial_form n order on off k) _ refl refl (λ f. formed n order f.1.0) s

  pub partial-both : (k room : ℕ) → ((s : ℕ) × (partial n order on off k room ≡ refused (collides s))) ↔ (NoneApply (partial_form n order on off k) × Collide)
  unfolding partial_for partial
  partial-both k room = refused-both _ n order.items _ _ (partial_form n order on off k) _ refl refl (λ f. formed n order f.1.0)
