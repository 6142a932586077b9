-- Comment lines, one by one.
use Rattle.std.proofs.Common.{◌≡◌, refl, Bool, true, false, not, List, [], ◌∷◌, ℕ, eqb, take, drop}
use Rattle.std.proofs.Math.Option.{none, some}
use Rattle.std.specs.Cmp.Lexicographic.{pointwise}
use borrow.Author.Tests.{eqb-true}
use Rattle.rules.specs.Dimacs.{after_comments, after_all}
use Rattle.rules.proofs.Logic.{test, clash}

-- `c` begins one
pub comment-begins : (t : List ℕ) → pointwise eqb (take 1 t) (99 ∷ []) ≡ true → after_comments false t ≡ after_comments true (drop 1 t)
unfolding after_comments
comment-begins [] p = clash p refl
comment-begins (b ∷ t) p = test (eqb b 99) (λ q. rw q) λ q. clash p (rw q)

pub no_comment : (t : List ℕ) → pointwise eqb (take 1 t) (99 ∷ []) ≡ false → after_comments false t ≡ some t
unfolding after_comments
no_comment [] p = refl
no_comment (b ∷ t) p = test (eqb b 99) (λ q. clash (rw q) p) λ q. rw q

-- a line feed ends it
abbrev pub in_line : ℕ → Bool
in_line b = not (eqb b 10)

pub comment-ends : (t : List ℕ) → pointwise eqb (take 1 (after_all in_line t)) (10 ∷ []) ≡ true → after_comments true t ≡ after_comments false (drop 1 (after_all in_line t))
unfolding after_comments after_all
comment-ends [] p = clash p refl
comment-ends (b ∷ t) p = test (eqb b 10) (λ q. rw (q, after_comments)) λ q. rw (q, after_comments) (comment-ends t (rw q at p))

pub comment-open : (t : List ℕ) → pointwise eqb (take 1 (after_all in_line t)) (10 ∷ []) ≡ false → after_comments true t ≡ none
unfolding after_comments after_all
comment-open [] p = refl
comment-open (b ∷ t) p = test (eqb b 10) (λ q. clash refl (rw (eqb-true b 10 q) at p)) λ q. rw (q, after_comments) (comment-open t (rw q at p))

pub ruleset comments = (comment-begins, no_comment, comment-ends, comment-open)
