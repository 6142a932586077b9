-- DIMACS CNF, read strictly. A text is a run of bytes.
use mathlib.Core.{Bool.Bool, Bool.true, Bool.false, Bool.not, Bool.cond, Bool.◌&&◌, Bool.◌||◌, List.List, List.[], List.◌∷◌}
use mathlib.Core.{Option.Option, Option.none, Option.some, Option.get_or}
use Prim.Native.{Char.code, Nat.ℕ, Nat.◌+◌, Nat.◌-◌, Nat.◌*◌, String.String}
use lib.{Dec.eqb, Dec.leb, IntN.ℤ, IntN.pos, IntN.negsuc, ListN.length, ListN.drop}
use Rattle.rules.specs.{Words.max_inputs, Sheets.max_clauses}

-- A text has at most 32,768 bytes.
abbrev pub max_bytes : ℕ
max_bytes = 32768

-- A text's bytes in ASCII, and some kinds of byte.
abbrev pub ascii : String → List ℕ
ascii String.[] = []
ascii (String.◌∷◌ c s) = code c ∷ ascii s

abbrev pub is_digit : ℕ → Bool
is_digit b = leb (code "0") b && leb b (code "9")

abbrev pub is_gap : ℕ → Bool
is_gap b = eqb b (code " ") || eqb b (code "\t")

abbrev pub is_blank : ℕ → Bool
is_blank b = is_gap b || (eqb b (code "\r") || eqb b (code "\n"))

abbrev pub not_blank : ℕ → Bool
not_blank b = not (is_blank b)

-- A step of a reader gives what it read or what is left of the text, or nothing where the text is not in form.
infixl 20 ◌>>=◌
abbrev pub ◌>>=◌ : {A B : Type 0} → Option A → (A → Option B) → Option B
◌>>=◌ none f = none
◌>>=◌ (some a) f = f a

-- What is left after the comment lines, each from a `c` to a line feed. `inside`: such a line is being read.
unfoldable pub after_comments : Bool → List ℕ → Option (List ℕ)
after_comments true [] = none
after_comments true (b ∷ t) = after_comments (not (eqb b (code "\n"))) t
after_comments false [] = some []
after_comments false (b ∷ t) = let rest = after_comments true t in cond (eqb b (code "c")) rest (some (b ∷ t))

-- What is left after these very bytes.
unfoldable pub after_bytes : List ℕ → List ℕ → Option (List ℕ)
after_bytes [] t = some t
after_bytes (a ∷ more) [] = none
after_bytes (a ∷ more) (b ∷ t) = let rest = after_bytes more t in cond (eqb a b) rest none

-- All bytes of a kind at the front of a text, and what is left after them.
unfoldable pub front : (ℕ → Bool) → List ℕ → List ℕ
front kind [] = []
front kind (b ∷ t) = let rest = b ∷ front kind t in cond (kind b) rest []

unfoldable pub after_all : (ℕ → Bool) → List ℕ → List ℕ
after_all kind [] = []
after_all kind (b ∷ t) = let rest = after_all kind t in cond (kind b) rest (b ∷ t)

-- What is left after one or more spaces.
abbrev pub after_spaces : List ℕ → Option (List ℕ)
after_spaces t = after_bytes (ascii " ") t >>= λ rest. some (after_all (eqb (code " ")) rest)

-- What a decimal without leading zeros comes to; `sum`: what the digits before came to.
unfoldable pub digits_from : ℕ → List ℕ → Option ℕ
digits_from sum [] = some sum
digits_from sum (b ∷ t) = let rest = digits_from (sum * 10 + (b - code "0")) t in cond (is_digit b) rest none

abbrev pub decimal : List ℕ → Option ℕ
decimal [] = none
decimal (b ∷ []) = digits_from 0 (b ∷ [])
decimal (b ∷ c ∷ t) = cond (eqb b (code "0")) none (digits_from 0 (b ∷ c ∷ t))

abbrev pub within : ℕ → ℕ → ℕ → Option ℕ
within low high m = cond (leb low m && leb m high) (some m) none

-- The header's end: spaces and tabs, an optional carriage return, and a line feed or the end of the text.
abbrev pub line_end : List ℕ → Option (List ℕ)
line_end [] = some []
line_end (b ∷ t) = after_bytes (ascii "\n") (b ∷ t)

abbrev pub header_end : List ℕ → Option (List ℕ)
header_end t = let rest = after_all is_gap t in line_end (get_or (after_bytes (ascii "\r") rest) rest)

-- `p`, spaces, `cnf`, spaces, V, spaces, C, and the header's end; then the body.
pub record Header : Type 0 where
  pub inputs : ℕ
  pub clauses : ℕ
  pub body : List ℕ

unfoldable pub header : List ℕ → Option Header
header text = do
  t ← after_comments false text
  t ← after_bytes (ascii "p") t
  t ← after_spaces t
  t ← after_bytes (ascii "cnf") t
  t ← after_spaces t
  v ← decimal (front is_digit t) >>= within 1 max_inputs
  t ← after_spaces (after_all is_digit t)
  c ← decimal (front is_digit t) >>= within 0 max_clauses
  t ← header_end (after_all is_digit t)
  some (record { inputs = v; clauses = c; body = t })

-- A body token: a number in form, `0` or an optional minus with 1..V; `%`; or anything else.
pub data Token : Type 0 where
  number : ℤ → Token
  ends : Token
  other : Token

abbrev pub signed : (ℕ → ℤ) → Option ℕ → Token
signed sign none = other
signed sign (some m) = number (sign m)

abbrev pub token_of : ℕ → List ℕ → Token
token_of v [] = other
token_of v (b ∷ []) = cond (eqb b (code "%")) ends (signed pos (decimal (b ∷ []) >>= within 0 v))
token_of v (b ∷ c ∷ t) =
    cond (eqb b (code "-")) (signed (λ m. negsuc (m - 1)) (decimal (c ∷ t) >>= within 1 v))
    (signed pos (decimal (b ∷ c ∷ t) >>= within 0 v))

-- The tokens of a text are its runs of other bytes, parted by blanks: each begins a token or belongs to the next one.
abbrev pub begins_token : List ℕ → Bool
begins_token [] = false
begins_token (b ∷ t) = not_blank b

abbrev pub join_token : ℕ → Bool → List (List ℕ) → List (List ℕ)
join_token b true [] = (b ∷ []) ∷ []
join_token b true (w ∷ ws) = (b ∷ w) ∷ ws
join_token b false ws = (b ∷ []) ∷ ws

unfoldable pub tokens : List ℕ → List (List ℕ)
tokens [] = []
tokens (b ∷ t) = let rest = tokens t in cond (is_blank b) rest (join_token b (begins_token t) rest)

-- The numbers of a body's tokens, up to `%` or the end; nothing where a token is not in form.
abbrev pub join_number : Token → Option (List ℤ) → Option (List ℤ)
join_number (number z) later = later >>= λ zs. some (z ∷ zs)
join_number ends later = some []
join_number other later = none

unfoldable pub numbers : ℕ → List (List ℕ) → Option (List ℤ)
numbers v [] = some []
numbers v (w ∷ ws) = let later = numbers v ws in join_number (token_of v w) later

-- One step of the reader from a place in the text: the next token and the place behind it, or nothing where none is left.
pub record Step : Type 0 where
  pub token : Token
  pub place : ℕ

abbrev pub step_in : ℕ → ℕ → List ℕ → Option Step
step_in v size [] = none
step_in v size (b ∷ t) = some (record { token = token_of v (front not_blank (b ∷ t)); place = size - length (after_all not_blank (b ∷ t)) })

unfoldable pub step : ℕ → List ℕ → ℕ → Option Step
step v text place = step_in v (length text) (after_all is_blank (drop place text))
