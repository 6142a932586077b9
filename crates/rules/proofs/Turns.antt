-- Pruning row by row: a row stays if it holds a setting that lies in none of those kept before it and in none behind it.
use mathlib.Core.Path.{◌≡◌, refl, sym, ap, ◌∙◌}
use mathlib.Core.Bool.{Bool, true, false, cond}
use mathlib.Core.List.{List, [], ◌∷◌, ◌++◌, append_assoc, append-nil}
use mathlib.Core.Logic.{◌↔◌}
use Prim.Native.Nat.{ℕ}
use lib.ListN.{length, get_or}
use Rattle.rules.specs.declared.Row.{Row}
use Rattle.rules.specs.Words.{is_row}
use Rattle.rules.specs.Method.{needed, marks_after, marks, picked}
use Rattle.rules.proofs.Orders.{IsOrder}
use Rattle.rules.proofs.Pruning.{Alone, needed-alone}

-- The mark of r, behind the rows xs and before the rows ys.
abbrev pub mark_of : (ℕ → Bool) → List ℕ → List Row → Row → List Row → Bool
mark_of counts order xs r ys = get_or (marks counts order (xs ++ (r ∷ ys))) (length xs) false

-- Those of the rows xs that stay, where r and the rows ys come after them.
abbrev pub kept_of : (ℕ → Bool) → List ℕ → List Row → Row → List Row → List Row
kept_of counts order xs r ys = picked (marks counts order (xs ++ (r ∷ ys))) xs

module _ (n : ℕ) (order : List ℕ) (o : IsOrder n order) (counts : ℕ → Bool) where
  -- One row after the other, each against those kept so far and those behind it.
  moved : (b : Bool) (kept : List Row) (x : Row) (rest : List Row) → cond b (kept ++ (x ∷ [])) kept ++ rest ≡ kept ++ cond b (x ∷ rest) rest
  moved true kept x rest = append_assoc kept (x ∷ []) rest
  moved false kept x rest = refl

  turn : (kept xs : List Row) (r : Row) (ys : List Row)
      → get_or (marks_after counts order kept (xs ++ (r ∷ ys))) (length xs) false
      ≡ needed counts order r ((kept ++ picked (marks_after counts order kept (xs ++ (r ∷ ys))) xs) ++ ys)
  unfolding marks_after picked
  turn kept [] r ys = ap (λ l. needed counts order r (l ++ ys)) (sym (append-nil kept))
  turn kept (x ∷ xs) r ys =
      let b = needed counts order x (kept ++ (xs ++ (r ∷ ys))) in
      let kept' = cond b (kept ++ (x ∷ [])) kept in
      turn kept' xs r ys
      ∙ ap (λ l. needed counts order r (l ++ ys)) (moved b kept x (picked (marks_after counts order kept' (xs ++ (r ∷ ys))) xs))

  pub in-turn : (xs : List Row) (r : Row) (ys : List Row) → is_row n r ≡ true
      → (mark_of counts order xs r ys ≡ true) ↔ Alone n counts r (kept_of counts order xs r ys ++ ys)
  in-turn xs r ys w =
      let others = kept_of counts order xs r ys ++ ys in
      let means = needed-alone order counts n o r others w in
      (λ h. means.0 (sym (turn [] xs r ys) ∙ h), λ a. turn [] xs r ys ∙ means.1 a)
