-- Bytes of a kind at the front of a text, and the tokens of a DIMACS body, one at a time.
use mathlib.Core.Path.{◌≡◌, refl, ap, sym, ◌∙◌}
use mathlib.Core.Bool.{Bool, true, false}
use mathlib.Core.List.{List, [], ◌∷◌}
use Prim.Native.Nat.{ℕ}
use native.Mathlib.Omega.{arith}
use Rattle.rules.specs.Dimacs.{is_blank, not_blank, front, after_all, begins_token, join_token, tokens}
use Rattle.rules.proofs.Logic.{test}
use Rattle.std.proofs.lemmas.Bool.{not_from_false, not_from_true}

-- a byte of the kind belongs to the front; another one ends it
pub front-more : (kind : ℕ → Bool) (b : ℕ) (t : List ℕ) → kind b ≡ true → front kind (b ∷ t) ≡ b ∷ front kind t
unfolding front
front-more kind b t p = rw p

pub front-end : (kind : ℕ → Bool) (b : ℕ) (t : List ℕ) → kind b ≡ false → front kind (b ∷ t) ≡ []
unfolding front
front-end kind b t p = rw p

pub after_more : (kind : ℕ → Bool) (b : ℕ) (t : List ℕ) → kind b ≡ true → after_all kind (b ∷ t) ≡ after_all kind t
unfolding after_all
after_more kind b t p = rw p

pub after-end : (kind : ℕ → Bool) (b : ℕ) (t : List ℕ) → kind b ≡ false → after_all kind (b ∷ t) ≡ b ∷ t
unfolding after_all
after-end kind b t p = rw p

-- a blank before the tokens does not matter; another byte begins a token or belongs to the next one
pub tokens-blank : (b : ℕ) (t : List ℕ) → is_blank b ≡ true → tokens (b ∷ t) ≡ tokens t
unfolding tokens
tokens-blank b t p = rw p

pub tokens-join : (b : ℕ) (t : List ℕ) → is_blank b ≡ false → tokens (b ∷ t) ≡ join_token b (begins_token t) (tokens t)
unfolding tokens
tokens-join b t p = rw p

-- no token is left where only blanks are
pub tokens_none : (t : List ℕ) → after_all is_blank t ≡ [] → tokens t ≡ []
unfolding tokens
tokens_none [] e = refl
tokens_none (b ∷ t) e =
    test (is_blank b) (λ p. tokens-blank b t p ∙ tokens_none t (sym (after_more is_blank b t p) ∙ e)) λ p.
    let f = after-end is_blank b t p in let z : ◌≡◌ {A = ℕ} 0 1 = cc in let w : ⊥ = omega arith in absurd w

-- the text's first token goes to the next blank, and the others come after it
abbrev pub FirstToken : List ℕ → Type 0
FirstToken t = tokens t ≡ front not_blank t ∷ tokens (after_all not_blank t)

token-last : (b : ℕ) → is_blank b ≡ false → FirstToken (b ∷ [])
unfolding tokens front after_all
token-last b p = rw p

token-short : (b c : ℕ) (t : List ℕ) → is_blank b ≡ false → is_blank c ≡ true → FirstToken (b ∷ c ∷ t)
token-short b c t p q =
    let e = ap (λ x. join_token b x (tokens (c ∷ t))) (not_from_true _ q) in
    cc (
      tokens-join b (c ∷ t) p,
      front-more not_blank b (c ∷ t) (not_from_false _ p),
      front-end not_blank c t (not_from_true _ q),
      after_more not_blank b (c ∷ t) (not_from_false _ p),
      after-end not_blank c t (not_from_true _ q),
    )

token-longer : (b c : ℕ) (t : List ℕ) → is_blank b ≡ false → is_blank c ≡ false → FirstToken (c ∷ t) → FirstToken (b ∷ c ∷ t)
token-longer b c t p q h =
    let e = ap (λ x. join_token b x (tokens (c ∷ t))) (not_from_false _ q) in
    let k = ap (join_token b true) h in
    cc (tokens-join b (c ∷ t) p, front-more not_blank b (c ∷ t) (not_from_false _ p), after_more not_blank b (c ∷ t) (not_from_false _ p))

-- so it does where the text begins with a token
pub token-first : (b : ℕ) (t : List ℕ) → is_blank b ≡ false → FirstToken (b ∷ t)
token-first b [] p = token-last b p
token-first b (c ∷ t) p = test (is_blank c) (token-short b c t p) λ q. token-longer b c t p q (token-first c t q)

-- else the next token is the one behind the blanks
pub tokens-more : (t : List ℕ) (b : ℕ) (u : List ℕ) → after_all is_blank t ≡ b ∷ u → tokens t ≡ front not_blank (b ∷ u) ∷ tokens (after_all not_blank (b ∷ u))
unfolding after_all
tokens-more [] b u e = let z : ◌≡◌ {A = ℕ} 0 1 = cc in let w : ⊥ = omega arith in absurd w
tokens-more (c ∷ t) b u e =
    test (is_blank c) (λ p. tokens-blank c t p ∙ tokens-more t b u (sym (after_more is_blank c t p) ∙ e)) λ p.
    let f = after-end is_blank c t p in let h = token-first c t p in cc
