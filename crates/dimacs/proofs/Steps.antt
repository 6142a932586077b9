-- The first token of a text, and a step of the reader.
use Rattle.std.proofs.Common.{◌≡◌, refl, ap, ◌∙◌, List, [], ◌∷◌, ℕ, ◌-◌, ◌<◌, length, drop, arith}
use Rattle.std.proofs.Math.Option.{Option, none, some}
use Rattle.std.specs.List.{slice_range}
use Rattle.std.proofs.lemmas.Slice.{between_to_end}
use lib.ListN.{drop_of_length-le}
use Rattle.rules.specs.Dimacs.{is_blank, not_blank, front, after_all, token_of, Step, step_in, step}
use Rattle.rules.proofs.Logic.{test}
use Rattle.std.proofs.lemmas.Bool.{not_from_false}
use Rattle.rules.proofs.Tokens.{after_more, after-end, front-more}
use Rattle.dimacs.specs.Parts.{First, first_in, first_token}

-- the first token is the word behind the blanks, if there is one
no_word : (t : List ℕ) → length (front not_blank (after_all is_blank t)) ≡ 0 → after_all is_blank t ≡ []
unfolding after_all
no_word [] l = refl
no_word (b ∷ t) l =
    test (is_blank b) (λ p. let e = after_more is_blank b t p in e ∙ no_word t (omega (arith, ap (λ u. length (front not_blank u)) e))) λ p.
    let e = after-end is_blank b t p in
    absurd (omega (arith, ap (λ u. length (front not_blank u)) e, ap length (front-more not_blank b t (not_from_false _ p))))

pub no_first : (v : ℕ) (t : List ℕ) → length (front not_blank (after_all is_blank t)) ≡ 0 → first_token v t ≡ none
unfolding first_token
no_first v t l = ap (first_in v) (no_word t l)

one_in : (v : ℕ) (t : List ℕ) → 0 < length (front not_blank t) → first_in v t ≡ some (record { token = token_of v (front not_blank t); rest = after_all not_blank t })
unfolding front
one_in v [] l = absurd (omega arith)
one_in v (b ∷ t) l = refl

pub a-first : (v : ℕ) (t : List ℕ) → 0 < length (front not_blank (after_all is_blank t))
    → first_token v t ≡ some (record { token = token_of v (front not_blank (after_all is_blank t)); rest = after_all not_blank (after_all is_blank t) })
unfolding first_token
a-first v t l = one_in v (after_all is_blank t) l

-- a step from a position on is the first token there, and the place behind it
abbrev pub placed : ℕ → Option First → Option Step
placed size none = none
placed size (some f) = some (record { token = f.token; place = size - length f.rest })

placed_in : (v size : ℕ) (t : List ℕ) → step_in v size t ≡ placed size (first_in v t)
placed_in v size [] = refl
placed_in v size (b ∷ t) = refl

pub step_first : (v : ℕ) (t : List ℕ) (at : ℕ) → step v t at ≡ placed (length t) (first_token v (slice_range t at (length t)))
unfolding step first_token
step_first v t at = rw (between_to_end t at (length t) (omega arith)) (placed_in v (length t) (after_all is_blank (drop at t)))

pub step-past : (v : ℕ) (t : List ℕ) (at : ℕ) → length t < at → step v t at ≡ none
unfolding step after_all
step-past v t at l = rw (drop_of_length-le t {i = at} (omega arith))

pub ruleset firsts = (no_first, a-first)

pub ruleset steps = (step_first, step-past)
