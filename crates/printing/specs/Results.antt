-- What the steps of printing answer: a text's sheet, a refusal, and whether a list's text is written.
use Rattle.std.specs.Prelude.{◌≡◌, List, [], ◌∷◌, ◌++◌, ℕ, length, Result, Ok, Err}
use Rattle.rules.specs.declared.Refusal.{Refusal}
use Rattle.rules.specs.Answers.{Verdict, given, refused, refusal_reply, over}
use Rattle.rules.specs.Calls.{Read}
use Rattle.rules.specs.Dimacs.{ascii}
use Rattle.rules.specs.Pla.{setting_chars}
use Rattle.rules.specs.Program.{refusal_line}
use Rattle.printing.specs.declared.line.Refused.{Refused}
use Rattle.printing.specs.declared.sheet.ReadSheet.{ReadSheet}

-- What was read.
abbrev pub read_of : ReadSheet → Read
read_of sheet = record { inputs = sheet.inputs.count; numbers = sheet.numbers.now }

abbrev pub sheet_is : Result ReadSheet Refusal → Verdict Read
sheet_is (Ok sheet) = given (read_of sheet)
sheet_is (Err f) = refused (refusal_reply f)

-- A refusal's line, and what of it comes behind the number, before the line's end.
abbrev pub line_over : ℕ → Refusal → List ℕ
line_over n f = refusal_line n (refusal_reply f)

abbrev pub line_of : Refused → List ℕ
line_of f = line_over f.inputs.count f.refusal

abbrev pub settings_part : ℕ → List ℕ → List ℕ
settings_part n [] = []
settings_part n (s ∷ more) = ascii " " ++ setting_chars 1 n s

-- A text is written over the first bytes, or it is the line of a refusal and still to be written.
abbrev pub Prints : {E : Type 0} → (E → List ℕ) → List ℕ → List ℕ → Result ℕ E → List ℕ → Type 0
Prints line text old (Ok size) new = (size ≡ length text) × (new ≡ over text old)
Prints line text old (Err f) new = (line f ≡ text) × (new ≡ old)
