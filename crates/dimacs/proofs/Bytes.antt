-- The bytes of a word at the front of a text, by what the library's comparison of the two says.
use Rattle.std.proofs.Common.{◌≡◌, refl, sym, true, false, List, [], ◌∷◌, ℕ, length, drop, take, eqb}
use Rattle.std.proofs.Math.Option.{none, some}
use Rattle.std.specs.Cmp.Lexicographic.{pointwise}
use borrow.Author.Tests.{eqb-true, eqb-false, eq-eqb, ne_eqb}
use Rattle.rules.specs.Dimacs.{after_bytes}
use Rattle.rules.proofs.Logic.{test, clash}
use Rattle.std.proofs.lemmas.Bool.{and_parts}

pub word-there : (word t : List ℕ) → pointwise eqb (take (length word) t) word ≡ true → after_bytes word t ≡ some (drop (length word) t)
unfolding after_bytes
word-there [] t p = refl
word-there (a ∷ more) [] p = clash p refl
word-there (a ∷ more) (b ∷ t) p = let (same, rest) = and_parts (eqb b a) _ p in rw (eq-eqb a b (sym (eqb-true b a same))) (word-there more t rest)

pub word-missing : (word t : List ℕ) → pointwise eqb (take (length word) t) word ≡ false → after_bytes word t ≡ none
unfolding after_bytes
word-missing [] t p = clash refl p
word-missing (a ∷ more) [] p = refl
word-missing (a ∷ more) (b ∷ t) p =
    test (eqb b a) (λ q. rw (eq-eqb a b (sym (eqb-true b a q))) (word-missing more t (rw q at p))) λ q. rw (ne_eqb a b (λ e. eqb-false b a q (sym e)))

pub ruleset words = (word-there, word-missing)
