-- A list that is to be written is looked at no further than the rows that a list may have.
use Rattle.std.proofs.Common.{◌≡◌, ◌∙◌, refl, ap, ℕ, zero, suc, ◌≤◌, List, [], ◌∷◌, length, take, min, leb, arith}
use Rattle.std.proofs.lemmas.List.{length-take}
use Rattle.std.proofs.lemmas.Bool.Decides.{nat_tests}
use lib.Seq.{take-take}
use mathlib.Core.Bool.{and-false}
use borrow.Author.Tests.{leb-true}
use Rattle.rules.specs.declared.Row.{Row}
use Rattle.rules.specs.Method.{max_rows}
use Rattle.rules.specs.Answers.{Verdict, judge}
use Rattle.rules.specs.Calls.{rows_in, write}
use Rattle.rules.proofs.Logic.{test}

-- the rows in the first words of two runs are the first rows
pub rows-first : (k : ℕ) (cs vs : List ℕ) → rows_in (take k cs) (take k vs) ≡ take k (rows_in cs vs)
unfolding rows_in
rows-first zero cs vs = refl
rows-first (suc k) [] vs = refl
rows-first (suc k) (c ∷ cs) [] = refl
rows-first (suc k) (c ∷ cs) (v ∷ vs) = ap (λ l. record { care = c; value = v } ∷ l) (rows-first k cs vs)

-- the first rows are as many, and the same, for any count that is no more
first-there : (count k : ℕ) (rows : List Row) → count ≤ k → leb count (length (take k rows)) ≡ leb count (length rows)
first-there count k rows l = grind (arith, nat_tests, length-take)

pub write-first : (n count k room : ℕ) (rows : List Row) → min count max_rows ≤ k → write n count (take k rows) room ≡ write n count rows room
unfolding write judge
write-first n count k room rows m =
    test (leb count max_rows)
    (λ t. let l : count ≤ k = (let h = leb-true count max_rows t in omega arith) in rw (first-there count k rows l, take-take count k rows l))
    (λ f. rw (f, and-false (leb count (length (take k rows))), and-false (leb count (length rows))))

pub write-copied : (n count k room : ℕ) (cs vs : List ℕ) → min count max_rows ≤ k → write n count (rows_in (take k cs) (take k vs)) room ≡ write n count (rows_in cs vs) room
write-copied n count k room cs vs m = rw rows-first (write-first n count k room (rows_in cs vs) m)

-- what is said of the text of copied runs is said of the runs themselves
pub copied : {A : Type 0} (f : Verdict (List ℕ) → A) (n count room : ℕ) (care value cs vs : List ℕ) {k l : ℕ}
    → care ≡ take k cs → value ≡ take l vs → min count max_rows ≡ k → l ≡ k → f (write n count (rows_in care value) room) ≡ f (write n count (rows_in cs vs) room)
copied f n count room care value cs vs {k} p q few same =
    ap (λ rows. f (write n count rows room)) (ap (λ r. rows_in r value) p ∙ ap (λ r. rows_in (take k cs) r) (rw same at q))
    ∙ ap f (write-copied n count k room cs vs (omega arith))
