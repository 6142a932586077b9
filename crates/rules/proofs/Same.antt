-- The outcome depends only on which settings are on and which are off.
use mathlib.Core.Path.{◌≡◌, refl, ap, ap₂, ◌∙◌}
use mathlib.Core.Bool.{Bool, true, false, not, cond, ◌&&◌}
use mathlib.Core.List.{List, [], ◌∷◌, ◌++◌}
use mathlib.Core.Option.{Option}
use Prim.Native.Nat.{ℕ, zero, suc, ◌^◌, ◌<◌}
use lib.Dec.{ltb}
use lib.IntN.{ℤ}
use lib.ListN.{length}
use Rattle.rules.specs.declared.Row.{Row}
use Rattle.rules.specs.Words.{is_order, is_row, dashes, full, without, in_some}
use Rattle.rules.specs.Sheets.{satisfies}
use Rattle.rules.specs.Search.{found, holds_some}
use Rattle.rules.specs.Method.{max_rows, next, widen_at, widen, grown, generated, complete, pruned, all, list_of}
use Rattle.rules.specs.Answers.{Check, check, judge}
use Rattle.rules.specs.Calls.{Run, refusal2, form, not_well_formed, collision, whole_for, whole, partial_for, partial}
use Rattle.rules.proofs.Logic.{test, option}
use Rattle.std.proofs.lemmas.Bool.{and_parts, not_from_false}
use Rattle.rules.proofs.Rows.{dashes-row, without-row}
use Rattle.rules.proofs.Orders.{IsOrder, is-order}
use Rattle.rules.proofs.Smallest.{smallest-same}
use Rattle.rules.proofs.Generation.{next-is, start-row}

-- The same settings of n inputs.
abbrev pub Same : ℕ → (ℕ → Bool) → (ℕ → Bool) → Type 0
Same n P Q = (t : ℕ) → t < 2 ^ n → P t ≡ Q t

module _ (n : ℕ) (order : List ℕ) (o : IsOrder n order) where
  widen_at-same : (off off' : ℕ → Bool) → Same n off off' → (vs : List ℕ) (r : Row) → is_row n r ≡ true → widen_at vs order off r ≡ widen_at vs order off' r
  unfolding widen_at
  widen_at-same off off' h [] r w = refl
  widen_at-same off off' h (v ∷ vs) r w =
      widen_at-same off off' h vs (cond (holds_some off order (without v r)) r (without v r)) (chosen (holds_some off order (without v r)))
      ∙ ap (λ (b : Bool). widen_at vs order off' (cond b r (without v r)))
      (ap found (smallest-same n order o off (without v r) (without-row n v r w) off' (λ t l k. h t l)))
    where
      chosen : (b : Bool) → is_row n (cond b r (without v r)) ≡ true
      chosen true = w
      chosen false = without-row n v r w

  module _ (on on' off off' : ℕ → Bool) (h : Same n on on') (g : Same n off off') where
    pub next-same : (rows : List Row) → next order on rows ≡ next order on' rows
    unfolding next
    next-same rows =
        smallest-same n order o (λ s. on s && not (in_some rows s)) dashes (dashes-row n) (λ s. on' s && not (in_some rows s))
        (λ t l k. ap (λ (b : Bool). b && not (in_some rows t)) (h t l))

    widen-same : (s : ℕ) → s < 2 ^ n → widen order off s ≡ widen order off' s
    unfolding widen
    widen-same s l = widen_at-same off off' g order (full (length order) s) (start-row n order o on off s l)

    grown-same : (rows : List Row) → grown order off rows (next order on rows) ≡ grown order off' rows (next order on' rows)
    grown-same rows =
        option (next order on rows)
        (λ e. rw (← next-same rows, e))
        (λ s e. rw (← next-same rows, e) (ap (λ (r : Row). rows ++ (r ∷ [])) (widen-same s (next-is n order o on off rows s e).0)))

    pub generated-same : (k : ℕ) → generated order on off k ≡ generated order on' off' k
    unfolding generated
    generated-same zero = refl
    generated-same (suc k) =
        grown-same (generated order on off k) ∙ ap (λ (l : List Row). grown order off' l (next order on' l)) (generated-same k)

    pub complete-same : (k : ℕ) → complete order on (generated order on off k) ≡ complete order on' (generated order on' off' k)
    complete-same k = ap (λ (r : Option ℕ). not (found r)) (next-same (generated order on off k) ∙ ap (next order on') (generated-same k))

    pub list_same : list_of order on off ≡ list_of order on' off'
    unfolding list_of
    list_same = ap (pruned all order) (generated-same max_rows)

    pub collision-same : collision order on off ≡ collision order on' off'
    unfolding collision
    collision-same =
        smallest-same n order o (λ s. on s && off s) dashes (dashes-row n) (λ s. on' s && off' s)
        (λ t l k. ap₂ (λ (a b : Bool). a && b) (h t l) (g t l))

    -- Whole and partial lists, with their refusals.
    pub whole_same : (form : List Check) (room : ℕ) → whole_for form order on off room ≡ whole_for form order on' off' room
    unfolding whole_for
    whole_same form room = rw (collision-same, complete-same max_rows, list_same)

    pub partial-same : (form : List Check) (k room : ℕ) → partial_for form order on off k room ≡ partial_for form order on' off' k room
    unfolding partial_for
    partial-same form k room = rw (collision-same, complete-same k, generated-same k)

-- Calls on sheets that are alike well formed and ask for the same settings.
module _ (n : ℕ) (order : Run ℕ) (on on' off off' : Run ℤ) (form_on : not_well_formed n on ≡ not_well_formed n on') (form_off : not_well_formed n off ≡ not_well_formed n off')
    (h : Same n (satisfies on.items) (satisfies on'.items)) (g : Same n (satisfies off.items) (satisfies off'.items)) where
  -- An order that is not one is refused before any setting is looked at.
  order-first : {C : Type 0} → (is_order n order.items ≡ true → C) → ((refusal2 n order).applies ≡ true → C) → C
  order-first is_one is_none =
      test (order.is_whole && is_order n order.items)
      (λ q. is_one (and_parts order.is_whole (is_order n order.items) q).1)
      (λ q. is_none (not_from_false _ q))

  pub same_whole : (room : ℕ) → whole n order on off room ≡ whole n order on' off' room
  unfolding whole whole_for judge
  same_whole room =
      order-first
      (λ q. rw (form_on, form_off) (whole_same n order.items (is-order n order.items q) _ _ _ _ h g (form n order on' off') room))
      (λ q. rw q)

  pub same-partial : (k room : ℕ) → partial n order on off k room ≡ partial n order on' off' k room
  unfolding partial partial_for judge
  same-partial k room =
      order-first
      (λ q. rw (form_on, form_off) (partial-same n order.items (is-order n order.items q) _ _ _ _ h g (form n order on' off' ++ (check 5 (ltb max_rows k) ∷ [])) k room))
      (λ q. rw q)
