-- PLA text: what is written for a list, and, apart from that, what a text says at a setting.
-- And how many rows a text says it has.
use mathlib.Core.{Bool.Bool, Bool.true, Bool.false, Bool.not, Bool.cond, Bool.◌&&◌, Bool.◌||◌}
use mathlib.Core.{List.List, List.[], List.◌∷◌, List.◌++◌, Option.Option, Option.none, Option.some}
use Prim.Native.{Char.code, Nat.ℕ, Nat.zero, Nat.suc, Nat.◌+◌, Nat.◌/◌, Nat.◌%◌}
use lib.{Dec.eqb, Dec.ltb, ListN.length}
use Rattle.rules.specs.{declared.Row.Row, Words.is_one, Words.fixes, Words.one, Dimacs.ascii, Dimacs.after_bytes, Dimacs.decimal}

-- The digits of a number below 1,000, without leading zeros.
abbrev pub digit : ℕ → ℕ
digit d = code "0" + d % 10

unfoldable pub digits : ℕ → List ℕ
digits m =
    cond (ltb m 10) (digit m ∷ [])
    (cond (ltb m 100) (digit (m / 10) ∷ digit m ∷ [])
    (digit (m / 100) ∷ digit (m / 10) ∷ digit m ∷ []))

-- The characters of a setting's, and of a row's, variables v, v + 1 and so on, k of them.
abbrev pub bit_char : Bool → ℕ
bit_char true = code "1"
bit_char false = code "0"

unfoldable pub setting_chars : ℕ → ℕ → ℕ → List ℕ
setting_chars v zero s = []
setting_chars v (suc k) s = bit_char (is_one v s) ∷ setting_chars (suc v) k s

unfoldable pub row_chars : ℕ → ℕ → Row → List ℕ
row_chars v zero r = []
row_chars v (suc k) r = cond (fixes r v) (bit_char (is_one v r.value)) (code "-") ∷ row_chars (suc v) k r

-- `.i n`, `.o 1`, `.p count`, a line for each row, `.e`.
unfoldable pub row_lines : ℕ → List Row → List ℕ
row_lines n [] = []
row_lines n (r ∷ rows) = row_chars 1 n r ++ (ascii " 1\n" ++ row_lines n rows)

unfoldable pub text_of : ℕ → List Row → List ℕ
text_of n rows =
    ascii ".i " ++ (digits n ++ (ascii "\n.o 1\n.p " ++ (digits (length rows) ++ (ascii "\n" ++ (row_lines n rows ++ ascii ".e\n")))))

-- Reading. The lines of a text, each closed by a line feed.
abbrev pub into_line : ℕ → List (List ℕ) → List (List ℕ)
into_line b [] = []
into_line b (l ∷ ls) = (b ∷ l) ∷ ls

unfoldable pub lines : List ℕ → List (List ℕ)
lines [] = []
lines (b ∷ t) = let rest = lines t in cond (eqb b (code "\n")) ([] ∷ rest) (into_line b rest)

-- A character agrees with a variable's value.
abbrev pub agrees : ℕ → Bool → Bool
agrees ch b = eqb ch (code "-") || eqb ch (bit_char b)

-- What follows a row's space is a lone 1.
abbrev pub says_one : List ℕ → Bool
says_one [] = false
says_one (b ∷ []) = eqb b (bit_char true)
says_one (b ∷ c ∷ l) = false

-- What is left of a row's line, from the character of variable v on, agrees with the setting and says 1.
unfoldable pub line_holds : ℕ → List ℕ → ℕ → Bool
line_holds v [] s = false
line_holds v (ch ∷ l) s = let later = line_holds (suc v) l s in cond (eqb ch (code " ")) (says_one l) (agrees ch (is_one v s) && later)

-- A line that begins with a dot is no row.
abbrev pub is_row_line : List ℕ → Bool
is_row_line [] = false
is_row_line (b ∷ l) = not (eqb b (code "."))

unfoldable pub some_line : List (List ℕ) → ℕ → Bool
some_line [] s = false
some_line (l ∷ ls) s = (is_row_line l && line_holds 1 l s) || some_line ls s

-- A setting reads as 1 if some row holds it, else 0.
unfoldable pub read_at : List ℕ → ℕ → Bool
read_at text s = some_line (lines text) s

-- The number on the `.p` line: the decimal that all of its line behind the space is, or none where there is no such line.
abbrev pub count_or : Option (List ℕ) → Option ℕ → Option ℕ
count_or none later = later
count_or (some count) later = decimal count

unfoldable pub count_line : List (List ℕ) → Option ℕ
count_line [] = none
count_line (l ∷ ls) = let later = count_line ls in count_or (after_bytes (ascii ".p ") l) later

unfoldable pub read_count : List ℕ → Option ℕ
read_count text = count_line (lines text)

-- How many lines are rows.
unfoldable pub rows_among : List (List ℕ) → ℕ
rows_among [] = 0
rows_among (l ∷ ls) = one (is_row_line l) + rows_among ls

unfoldable pub rows_read : List ℕ → ℕ
rows_read text = rows_among (lines text)
