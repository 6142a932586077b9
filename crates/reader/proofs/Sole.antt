-- What is promised of a step determines it: two steps that are the same in the words of the rules are equal, and so are two readers that are left behind one.
use Rattle.std.proofs.Common.{◌≡◌, refl, sym, ◌∙◌, ap, List, ℕ, Bor, Option, Some, None}
use Rattle.std.proofs.Math.Option as math
use Rattle.rules.specs.Dimacs as rules
use Rattle.dimacs.specs.Parts.{token_is, step_is}
use Rattle.dimacs.specs.declared.token.Token.{Token}
use Rattle.dimacs.specs.declared.token.Token.TheVariants as token
use Rattle.reader.specs.declared.Reader.{Reader}
use Rattle.reader.specs.Moves.{moved}

abbrev pub reader_at : Bor (List ℕ) → ℕ → Reader
reader_at t p = record { text = t; position = p }

-- a token and the place behind it, or that none is left
abbrev pub Step : Type 0
Step = Option (Token × ℕ)

-- what a step from a reader gives, and with it the reader as it is left
abbrev pub found : ℕ → Reader → Step → Type 0
found v d r = step_is r ≡ rules.step v d.text.now d.position

abbrev pub Steps : ℕ → Reader → Step → Reader → Type 0
Steps v d r d' = found v d r × ((d'.text ≡ d.text) × (d'.position ≡ moved v d.text.now d.position))

abbrev token_from : rules.Token → Token
token_from (rules.number z) = token.Number z
token_from rules.ends = token.Percent
token_from rules.other = token.Other

token_back : (t : Token) → token_from (token_is t) ≡ t
token_back (token.Number z) = refl
token_back token.Percent = refl
token_back token.Other = refl

abbrev step_from : math.Option rules.Step → Step
step_from math.none = None
step_from (math.some s) = Some (token_from s.token, s.place)

step_back : (r : Step) → step_from (step_is r) ≡ r
step_back (Some (t, place)) = ap {B = Step} (λ x. Some (x, place)) (token_back t)
step_back None = refl

pub step-sole : (a b : Step) → step_is a ≡ step_is b → a ≡ b
step-sole a b e = sym (step_back a) ∙ ap step_from e ∙ step_back b

pub next-sole : (v : ℕ) (d : Reader) (a b : Step) (d₁ d₂ : Reader) → Steps v d a d₁ → Steps v d b d₂ → (a ≡ b) × (d₁ ≡ d₂)
next-sole v d a b d₁ d₂ e e' =
    (step-sole a b (e.0 ∙ sym e'.0), λ i. reader_at ((e.1.0 ∙ sym e'.1.0) i) ((e.1.1 ∙ sym e'.1.1) i))
