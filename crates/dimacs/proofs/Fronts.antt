-- The bytes of a kind at the front of a text, and the others, by their number.
use Rattle.std.proofs.Common.{◌≡◌, refl, ap, Bool, List, [], ◌∷◌, ℕ, take, drop}
use native.Mathlib.Numerals.{one-add}
use Rattle.std.specs.List.{prefix_len}
use Rattle.rules.specs.Dimacs.{front, after_all}
use Rattle.rules.proofs.Logic.{test}

pub front_is : (kind : ℕ → Bool) (t : List ℕ) → take (prefix_len kind t) t ≡ front kind t
unfolding front
front_is kind [] = refl
front_is kind (b ∷ t) = test (kind b) (λ p. rw (p, one-add) (ap (λ u. b ∷ u) (front_is kind t))) λ p. rw p

pub after_is : (kind : ℕ → Bool) (t : List ℕ) → drop (prefix_len kind t) t ≡ after_all kind t
unfolding after_all
after_is kind [] = refl
after_is kind (b ∷ t) = test (kind b) (λ p. rw (p, one-add) (after_is kind t)) λ p. rw p
