-- The program: what it prints for the texts of on.cnf and off.cnf.
use mathlib.Core.{Bool.not, List.List, List.[], List.◌∷◌, List.◌++◌}
use Rattle.std.specs.Prelude.{ℕ, eqb}
use Rattle.rules.specs.{Words.natural, Sheets.max_numbers, Method.max_rows, Answers.Reply, Answers.check, Answers.Verdict, Answers.given}
use Rattle.rules.specs.{Answers.refused, Answers.judge, Dimacs.ascii, Pla.digits, Pla.setting_chars, Pla.text_of, Calls.Read, Calls.lent}
use Rattle.rules.specs.Calls.{read, whole}

-- `refused`, a space, the number, and for 6 a space and the setting, variable 1 first.
abbrev pub settings_line : ℕ → List ℕ → List ℕ
settings_line n [] = ascii "\n"
settings_line n (s ∷ more) = ascii " " ++ (setting_chars 1 n s ++ ascii "\n")

abbrev pub refusal_line : ℕ → Reply → List ℕ
refusal_line n r = ascii "refused " ++ (digits r.number ++ settings_line n r.values)

-- A refusal ends the program's work with its line; a result goes on.
abbrev pub shown : {A : Type 0} → ℕ → Verdict A → (A → List ℕ) → List ℕ
shown n (given a) go_on = go_on a
shown n (refused r) go_on = refusal_line n r

-- Both sheets over n inputs.
unfoldable pub list_output : ℕ → Read → Read → List ℕ
list_output n on off = shown n (whole n (lent (natural n)) (lent on.numbers) (lent off.numbers) max_rows) (text_of n)

-- Each text is checked in full, in this order, and then whether the headers name the same n.
unfoldable pub output : List ℕ → List ℕ → List ℕ
output on_text off_text =
    shown 0 (read on_text max_numbers) (λ on.
    shown 0 (read off_text max_numbers) (λ off.
    shown 0 (judge (check 14 (not (eqb on.inputs off.inputs)) ∷ []) on.inputs) (λ n.
    list_output n on off)))
