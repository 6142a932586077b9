-- One turn of a loop over the numbers of a sheet.
use mathlib.Core.Path.{◌≡◌, ap, ◌∙◌}
use mathlib.Core.Bool.{Bool, true, false, cond, ◌&&◌, ◌||◌}
use mathlib.Core.List.{List, [], ◌∷◌}
use Prim.Native.Nat.{ℕ, zero, suc, ◌+◌, ◌≤◌, ◌<◌}
use native.Mathlib.Numerals.{add-one}
use native.Mathlib.Omega.{arith}
use lib.Dec.{leb}
use lib.IntN.{ℤ, pos}
use lib.ListN.{length, get_or, drop}
use lib.Seq.{drop-cons}
use borrow.Author.Tests.{leb-true}
use Rattle.std.specs.Prelude.{Option}
use Rattle.rules.specs.declared.Row.{Row}
use Rattle.rules.specs.Words.{one}
use Rattle.rules.specs.Sheets.{max_numbers, max_clauses, variable, closes, every_clause, clauses, ends_closed, in_reach, well_formed}
use Rattle.std.proofs.lemmas.Bool.{and_parts}
use Rattle.sheets.specs.Barred.{no_literals, with_literal, kept, barred_from}
use Rattle.sheets.proofs.Signs.{variable-of}

pub form-reach : (n : ℕ) (zs : List ℤ) → well_formed n zs ≡ true → in_reach n zs ≡ true
unfolding well_formed
form-reach n zs h =
    let p = and_parts (leb (length zs) max_numbers) (leb (clauses zs) max_clauses && (ends_closed true zs && in_reach n zs)) h in
    let q = and_parts (leb (clauses zs) max_clauses) (ends_closed true zs && in_reach n zs) p.1 in
    (and_parts (ends_closed true zs) (in_reach n zs) q.1).1

-- every number of a sheet in reach is in reach
reach-at : (n : ℕ) (zs : List ℤ) (k : ℕ) → in_reach n zs ≡ true → k < length zs → variable (get_or zs k (pos 0)) ≤ n
unfolding in_reach
reach-at n [] k h l = absurd (omega arith)
reach-at n (z ∷ zs) zero h l = leb-true (variable z) n (and_parts (leb (variable z) n) (in_reach n zs) h).0
reach-at n (z ∷ zs) (suc k) h l = reach-at n zs k (and_parts (leb (variable z) n) (in_reach n zs) h).1 (omega arith)

-- a number z that is the k-th, and the numbers after it
module _ (zs : List ℤ) (k : ℕ) (z : ℤ) (h : k < length zs) (e : z ≡ get_or zs k (pos 0)) where
  pub literal-in : (n : ℕ) → in_reach n zs ≡ true → closes z ≡ false → (1 ≤ variable z) × (variable z ≤ n)
  literal-in n i f = (variable-of z f, rw e (reach-at n zs k i h))

  cut : drop k zs ≡ z ∷ drop (k + 1) zs
  cut = drop-cons zs k (pos 0) h ∙ rw (add-one, e)

  pub clauses-turn : clauses (drop k zs) ≡ one (closes z) + clauses (drop (k + 1) zs)
  unfolding clauses
  clauses-turn = ap clauses cut

  pub every-turn : (t : ℤ → Bool) (met : Bool)
      → every_clause t met (drop k zs) ≡ cond (closes z) (met && every_clause t false (drop (k + 1) zs)) (every_clause t (met || t z) (drop (k + 1) zs))
  unfolding every_clause
  every-turn t met = ap (every_clause t met) cut

  pub barred-turn : (c : Option Row) → barred_from c (drop k zs) ≡ cond (closes z) (kept c (barred_from no_literals (drop (k + 1) zs))) (barred_from (with_literal z c) (drop (k + 1) zs))
  unfolding barred_from
  barred-turn c = ap (barred_from c) cut
