-- What the first token of a body says of its numbers.
use Rattle.std.proofs.Common.{◌≡◌, refl, List, [], ◌∷◌, ℕ, ℤ}
use Rattle.std.proofs.Math.Option.{Option, none, some}
use Rattle.rules.specs.Dimacs.{is_blank, after_all, join_number, numbers}
use Rattle.rules.proofs.Tokens.{tokens_none, tokens-more}
use Rattle.dimacs.specs.Parts.{First, first_in, first_token}
use Rattle.dimacs.specs.Bodies.{numbers_in}

-- it joins the numbers behind it; `%` and the end of the text end them
abbrev pub joined : ℕ → Option First → Option (List ℤ)
joined v none = some []
joined v (some f) = join_number f.token (numbers_in v f.rest)

joined_in : (v : ℕ) (t u : List ℕ) → after_all is_blank t ≡ u → numbers_in v t ≡ joined v (first_in v u)
unfolding numbers_in numbers
joined_in v t [] e = rw (tokens_none t e)
joined_in v t (b ∷ u) e = rw (tokens-more t b u e)

pub numbers_first : (v : ℕ) (t : List ℕ) → numbers_in v t ≡ joined v (first_token v t)
unfolding first_token
numbers_first v t = joined_in v t (after_all is_blank t) refl
