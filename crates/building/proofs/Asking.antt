-- What is asked of what is lent: each sheet's settings alone, and those that both ask for.
use mathlib.Core.Path.{◌≡◌, refl, sym, ap, ◌∙◌}
use mathlib.Core.Bool.{Bool, true, false, not, ◌&&◌, ◌||◌}
use mathlib.Core.List.{List, [], ◌∷◌, ◌++◌}
use Prim.Native.Nat.{ℕ, zero, suc}
use lib.IntN.{ℤ}
use lib.ListN.{length, take, drop}
use Rattle.std.proofs.lemmas.List.{take-append-drop}
use Rattle.rules.specs.declared.Row.{Row}
use Rattle.rules.specs.Words.{fits, dashes, in_some}
use Rattle.rules.specs.Sheets.{every_clause, satisfies, in_reach}
use Rattle.rules.specs.Search.{smallest}
use Rattle.rules.specs.Calls.{words_of, collision}
use Rattle.std.proofs.lemmas.Bool.{and_parts, and_from}
use Rattle.rules.proofs.Rows.{dashes-row, in_some-append}
use Rattle.rules.proofs.Orders.{is-order}
use Rattle.rules.proofs.Smallest.{smallest-same}
use Rattle.sheets.specs.Numbers.{numbers_of}
use Rattle.search.specs.Question.{good, cares_within, Asked}
use Rattle.building.specs.declared.lent.Lent.{Lent}
use Rattle.building.specs.Built.{off_rows, on_rows, off_at, on_at, collision_of}

-- What is good for two sheets is good for each, so the collision is one question.
good-both : (a b : List ℤ) (xs ys : List Row) (s : ℕ) → good a b (xs ++ ys) s ≡ (good a [] ys s && good b [] xs s)
unfolding good satisfies every_clause
good-both a b xs ys s = rw (in_some-append xs ys s) (go (satisfies a s) (satisfies b s) (in_some xs s) (in_some ys s))
  where
    go : (p q x y : Bool) → (p && (q && not (x || y))) ≡ ((p && (true && not y)) && (q && (true && not x)))
    go true true true true = refl
    go true true true false = refl
    go true true false true = refl
    go true true false false = refl
    go true false x true = refl
    go true false x false = refl
    go false q x y = refl

-- The first rows, and those behind them, care for no more than all do.
cares-parts : (n k : ℕ) (rows : List Row) → cares_within n rows ≡ true → (cares_within n (take k rows) ≡ true) × (cares_within n (drop k rows) ≡ true)
unfolding cares_within
cares-parts n zero rows w = (refl, w)
cares-parts n (suc k) [] w = (refl, refl)
cares-parts n (suc k) (r ∷ rows) w =
    let a = and_parts (fits n r.care) (cares_within n rows) w in
    let p = cares-parts n k rows a.1 in
    (and_from _ _ a.0 p.0, p.1)

-- No bytes are no numbers.
pub numbers-none : numbers_of [] ≡ []
unfolding words_of
numbers-none = refl

module _ (lent : Lent) where
  pub off-asked : Asked lent.order.now (numbers_of lent.off.now) [] (off_rows lent)
  unfolding in_reach
  off-asked =
      let a = lent.asked in
      record { ordered = a.ordered; size = a.size; reach-a = a.reach-b; reach-b = refl; cares = (cares-parts _ lent.offs _ a.cares).0 }

  pub on-asked : Asked lent.order.now (numbers_of lent.on.now) [] (on_rows lent)
  unfolding in_reach
  on-asked =
      let a = lent.asked in
      record { ordered = a.ordered; size = a.size; reach-a = a.reach-a; reach-b = refl; cares = (cares-parts _ lent.offs _ a.cares).1 }

  pub collision_is : smallest (good (numbers_of lent.on.now) (numbers_of lent.off.now) lent.both.now) lent.order.now dashes ≡ collision_of lent
  unfolding collision
  collision_is =
      let order = lent.order.now in
      let a = numbers_of lent.on.now in
      let b = numbers_of lent.off.now in
      ap (λ (rows : List Row). smallest (good a b rows) order dashes) (sym (take-append-drop lent.offs lent.both.now))
      ∙ smallest-same (length order) order (is-order _ _ lent.asked.ordered) _ dashes (dashes-row (length order)) (λ s. on_at lent s && off_at lent s)
      (λ s l k. good-both a b (off_rows lent) (on_rows lent) s)
