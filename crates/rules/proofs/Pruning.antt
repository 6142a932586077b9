-- Pruning: no setting that counts is lost, and no row that stays can be left out.
use mathlib.Core.Path.{◌≡◌, sym, ap, ◌∙◌, subst}
use mathlib.Core.Bool.{Bool, true, false, not, cond, ◌&&◌}
use mathlib.Core.List.{List, [], ◌∷◌, ◌++◌, append_assoc}
use mathlib.Core.Logic.{◌↔◌}
use Prim.Native.Nat.{ℕ, ◌^◌, ◌<◌}
use Rattle.rules.specs.declared.Row.{Row}
use Rattle.rules.specs.Words.{holds, is_row, in_some}
use Rattle.rules.specs.Method.{needed, marks_after, picked, pruned}
use Rattle.rules.proofs.Logic.{test, clash, both_ways}
use Rattle.std.proofs.lemmas.Bool.{and_parts, and_from, or_parts, not-true, not_from_false}
use Rattle.rules.proofs.Rows.{in_some-append}
use Rattle.rules.proofs.Orders.{IsOrder}
use Rattle.rules.proofs.Smallest.{some-yes, some-no}
use Rattle.rules.proofs.Generation.{All}

-- The row holds a setting that counts and that none of the others holds.
abbrev pub Alone : ℕ → (ℕ → Bool) → Row → List Row → Type 0
Alone n counts r others = (s : ℕ) × (s < 2 ^ n) × (counts s ≡ true) × (holds r s ≡ true) × (in_some others s ≡ false)

-- Each row is alone among those before and behind it.
abbrev pub AllAlone : ℕ → (ℕ → Bool) → List Row → List Row → Type 0
AllAlone n counts earlier [] = Unit {0}
AllAlone n counts earlier (r ∷ rows) = Alone n counts r (earlier ++ rows) × AllAlone n counts (earlier ++ (r ∷ [])) rows

module _ (order : List ℕ) (counts : ℕ → Bool) where
  -- What stays of the rest, where `kept` stayed before it.
  abbrev left : List Row → List Row → List Row
  left kept rest = picked (marks_after counts order kept rest) rest

  stays : (kept : List Row) (r : Row) (rest : List Row) → needed counts order r (kept ++ rest) ≡ true → left kept (r ∷ rest) ≡ r ∷ left (kept ++ (r ∷ [])) rest
  unfolding marks_after picked
  stays kept r rest e = ap (λ (b : Bool). picked (b ∷ marks_after counts order (cond b (kept ++ (r ∷ [])) kept) rest) (r ∷ rest)) e

  goes : (kept : List Row) (r : Row) (rest : List Row) → needed counts order r (kept ++ rest) ≡ false → left kept (r ∷ rest) ≡ left kept rest
  unfolding marks_after picked
  goes kept r rest e = ap (λ (b : Bool). picked (b ∷ marks_after counts order (cond b (kept ++ (r ∷ [])) kept) rest) (r ∷ rest)) e

  -- Whatever every row has, every row that stays has.
  left-all : (Q : Row → Type 0) (kept rest : List Row) → All Q rest → All Q (left kept rest)
  left-all Q kept [] q = unfold marks_after picked in q
  left-all Q kept (r ∷ rest) q =
      test (needed counts order r (kept ++ rest))
      (λ e. subst (All Q) (sym (stays kept r rest e)) (q.0, left-all Q (kept ++ (r ∷ [])) rest q.1))
      (λ e. subst (All Q) (sym (goes kept r rest e)) (left-all Q kept rest q.1))

  -- Nothing is held that was not.
  left-within : (kept rest : List Row) (s : ℕ) → in_some rest s ≡ false → in_some (left kept rest) s ≡ false
  unfolding in_some
  left-within kept [] s h = unfold marks_after picked in h
  left-within kept (r ∷ rest) s h =
      let b = or_parts (holds r s) (in_some rest s) h in
      test (needed counts order r (kept ++ rest))
      (λ e. subst (λ (l : List Row). in_some l s ≡ false) (sym (stays kept r rest e)) (rw b.0 (left-within (kept ++ (r ∷ [])) rest s b.1)))
      (λ e. subst (λ (l : List Row). in_some l s ≡ false) (sym (goes kept r rest e)) (left-within kept rest s b.1))

  -- What the rest does not hold, others beside the same rows do not hold either.
  beside : (kept xs ys : List Row) (s : ℕ) → (in_some xs s ≡ false → in_some ys s ≡ false) → in_some (kept ++ xs) s ≡ false → in_some (kept ++ ys) s ≡ false
  beside kept xs ys s f h =
      let b = or_parts (in_some kept s) (in_some xs s) (sym (in_some-append kept xs s) ∙ h) in
      in_some-append kept ys s ∙ rw (b.0, f b.1)

  module _ (n : ℕ) (o : IsOrder n order) where
    -- `needed` means what it says.
    needed-yes : (r : Row) (others : List Row) → is_row n r ≡ true → needed counts order r others ≡ true → Alone n counts r others
    needed-yes r others w e =
        let p = some-yes n order o (λ s. counts s && not (in_some others s)) r w e in
        let b = and_parts (counts p.0) (not (in_some others p.0)) p.3 in
        (p.0, p.1, b.0, p.2, not-true (in_some others p.0) b.1)

    needed-no : (r : Row) (others : List Row) → is_row n r ≡ true → needed counts order r others ≡ false
        → (s : ℕ) → s < 2 ^ n → counts s ≡ true → holds r s ≡ true → in_some others s ≡ true
    needed-no r others w e s l c h =
        test (in_some others s) (λ q. q)
        (λ q. clash (and_from _ _ c (not_from_false _ q)) (some-no n order o (λ s. counts s && not (in_some others s)) r w e s l h))

    pub needed-alone : (r : Row) (others : List Row) → is_row n r ≡ true → (needed counts order r others ≡ true) ↔ Alone n counts r others
    needed-alone r others w = (
      needed-yes r others w,
      λ a. test (needed counts order r others) (λ q. q) λ q. clash (needed-no r others w q a.0 a.1 a.2 a.3) a.4,
    )

    left_alone : (kept rest : List Row) → All (λ r. is_row n r ≡ true) rest → AllAlone n counts kept (left kept rest)
    left_alone kept [] w = unfold marks_after picked in tt
    left_alone kept (r ∷ rest) w =
        test (needed counts order r (kept ++ rest))
        (λ e. let p = needed-yes r (kept ++ rest) w.0 e in
        subst (AllAlone n counts kept) (sym (stays kept r rest e)) (
          (p.0, p.1, p.2, p.3, beside kept rest (left (kept ++ (r ∷ [])) rest) p.0 (left-within (kept ++ (r ∷ [])) rest p.0) p.4),
          left_alone (kept ++ (r ∷ [])) rest w.1,
        ))
        (λ e. subst (AllAlone n counts kept) (sym (goes kept r rest e)) (left_alone kept rest w.1))

    -- A setting that counts and was held is still held.
    left-holds : (kept rest : List Row) → All (λ r. is_row n r ≡ true) rest → (s : ℕ) → s < 2 ^ n → counts s ≡ true
        → in_some (kept ++ rest) s ≡ true → in_some (kept ++ left kept rest) s ≡ true
    left-holds kept [] w s l c h = unfold marks_after picked in h
    left-holds kept (r ∷ rest) w s l c h =
        test (needed counts order r (kept ++ rest))
        (λ e. subst (λ (x : List Row). in_some (kept ++ x) s ≡ true) (sym (stays kept r rest e))
        (subst (λ (x : List Row). in_some x s ≡ true) (append_assoc kept (r ∷ []) (left (kept ++ (r ∷ [])) rest))
        (left-holds (kept ++ (r ∷ [])) rest w.1 s l c (subst (λ (x : List Row). in_some x s ≡ true) (sym (append_assoc kept (r ∷ []) rest)) h))))
        (λ e. subst (λ (x : List Row). in_some (kept ++ x) s ≡ true) (sym (goes kept r rest e)) (left-holds kept rest w.1 s l c (still e)))
      where
        still : needed counts order r (kept ++ rest) ≡ false → in_some (kept ++ rest) s ≡ true
        still e =
            test (in_some (kept ++ rest) s) (λ q. q)
            (λ q. test (holds r s)
            (λ t. clash (needed-no r (kept ++ rest) w.0 e s l c t) q)
            (λ t. clash h (beside kept rest (r ∷ rest) s (λ k. unfold in_some in rw (t, k)) q)))

    module _ (rows : List Row) (w : All (λ r. is_row n r ≡ true) rows) where
      -- Pruning loses no setting that counts, and adds none.
      pub pruned-holds : (s : ℕ) → s < 2 ^ n → counts s ≡ true → in_some (pruned counts order rows) s ≡ in_some rows s
      unfolding pruned
      pruned-holds s l c =
          both_ways (in_some (left [] rows) s) (in_some rows s)
          (λ h. test (in_some rows s) (λ q. q) (λ q. clash h (left-within [] rows s q)))
          (λ h. left-holds [] rows w s l c h)

      -- No row of the pruned list can be left out without losing a setting that counts.
      pub pruned-alone : AllAlone n counts [] (pruned counts order rows)
      unfolding pruned
      pruned-alone = left_alone [] rows w

      pub pruned-all : (Q : Row → Type 0) → All Q rows → All Q (pruned counts order rows)
      unfolding pruned
      pruned-all Q = left-all Q [] rows
