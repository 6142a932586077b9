-- A row judged where it stands: blanked, and written back if it stays.
use mathlib.Core.Path.{◌≡◌}
use mathlib.Core.Bool.{true}
use mathlib.Core.List.{List, [], ◌∷◌}
use Prim.Native.Nat.{ℕ, zero, suc, ◌^◌}
use lib.IntN.{ℤ}
use lib.ListN.{length, set}
use lib.Pow.{pow_pos}
use borrow.Author.Tests.{lt-ltb}
use Rattle.rules.specs.declared.Row.{Row}
use Rattle.rules.specs.Words.{fits}
use Rattle.std.proofs.lemmas.Bool.{and_parts, and_from}
use Rattle.search.specs.Question.{cares_within, Asked}
use Rattle.method.specs.Blank.{blank}

-- A blank cares for no variable.
pub blank-fits : (n : ℕ) → fits n 0 ≡ true
blank-fits n = lt-ltb 0 (2 ^ n) (pow_pos n)

blank-within : (n : ℕ) (rows : List Row) (at : ℕ) → cares_within n rows ≡ true → cares_within n (set rows at blank) ≡ true
unfolding cares_within
blank-within n [] at h = h
blank-within n (r ∷ rows) zero h = and_from _ _ (blank-fits n) (and_parts (fits n r.care) (cares_within n rows) h).1
blank-within n (r ∷ rows) (suc at) h =
    let b = and_parts (fits n r.care) (cares_within n rows) h in
    and_from _ _ b.0 (blank-within n rows at b.1)

-- The others may be asked about.
pub others-asked : {order : List ℕ} {a : List ℤ} {rows : List Row} (at : ℕ) → Asked order a [] rows → Asked order a [] (set rows at blank)
others-asked {order} {a} {rows} at q =
    record { ordered = q.ordered; size = q.size; reach-a = q.reach-a; reach-b = q.reach-b; cares = blank-within (length order) rows at q.cares }
