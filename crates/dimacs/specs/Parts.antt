-- Parts of a text, and what this crate's answers say of them in the words of the rules.
use Rattle.std.specs.Prelude.{⊤, ◌≤◌, nat_abs, List, ◌∷◌, [], ℕ, Option, Some, None}
use Rattle.std.specs.Borrow.{Bor}
use Rattle.std.proofs.Math.Option as math
use Rattle.rules.specs.Dimacs as rules
use Rattle.rules.specs.Dimacs.{◌>>=◌, is_blank, not_blank, front, after_all, digits_from, decimal, within}
use Rattle.dimacs.specs.declared.token.Token.{Token}
use Rattle.dimacs.specs.declared.token.Token.TheVariants as token

-- what digits come to, after the sum of those before, and a decimal, where it lies between the two
unfoldable pub digits_within : ℕ → ℕ → ℕ → List ℕ → math.Option ℕ
digits_within low high sum t = digits_from sum t >>= within low high

unfoldable pub decimal_within : ℕ → ℕ → List ℕ → math.Option ℕ
decimal_within low high t = decimal t >>= within low high

abbrev pub decimal_of : Option ℕ → math.Option ℕ
decimal_of (Some m) = math.some m
decimal_of None = math.none

abbrev pub token_is : Token → rules.Token
token_is (token.Number z) = rules.number z
token_is token.Percent = rules.ends
token_is token.Other = rules.other

-- its number lies in -v..v
abbrev pub InReach : ℕ → Token → Type 0
InReach v (token.Number z) = nat_abs z ≤ v
InReach v token.Percent = ⊤
InReach v token.Other = ⊤

abbrev pub step_is : Option (Token × ℕ) → math.Option rules.Step
step_is (Some (t, place)) = math.some (record { token = token_is t; place = place })
step_is None = math.none

-- the first token of a text, and what is left behind it
pub record First : Type 0 where
  pub token : rules.Token
  pub rest : List ℕ

abbrev pub first_in : ℕ → List ℕ → math.Option First
first_in v [] = math.none
first_in v (b ∷ t) = math.some (record { token = rules.token_of v (front not_blank (b ∷ t)); rest = after_all not_blank (b ∷ t) })

unfoldable pub first_token : ℕ → List ℕ → math.Option First
first_token v t = first_in v (after_all is_blank t)

abbrev pub first_is : Option (Token × Bor (List ℕ)) → math.Option First
first_is (Some (t, rest)) = math.some (record { token = token_is t; rest = rest.now })
first_is None = math.none
