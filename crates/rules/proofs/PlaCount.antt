-- The lines of a PLA text, and the number on its `.p` line.
use mathlib.Core.Path.{◌≡◌, refl, ap, ◌∙◌}
use mathlib.Core.List.{List, ◌∷◌, ◌++◌}
use mathlib.Core.Option.{some}
use Prim.Native.Char.{code}
use Prim.Native.Nat.{ℕ, ◌/◌, ◌<◌}
use native.Mathlib.Omega.{arith}
use lib.ListN.{length}
use borrow.Author.Tests.{ne_eqb}
use Rattle.rules.specs.declared.Row.{Row}
use Rattle.rules.specs.Dimacs.{ascii, after_bytes, digits_from, decimal}
use Rattle.rules.specs.Pla.{digit, digits, row_lines, text_of, lines, count_line, read_count}
use Rattle.rules.proofs.Lines.{plain, lines-line, digits-cases, digits-plain, digits-read}

-- the digits of a number are a decimal without leading zeros
digits_decimal : (m : ℕ) → m < 1000 → decimal (digits m) ≡ digits_from 0 (digits m)
digits_decimal m l =
    digits-cases (λ t. decimal t ≡ digits_from 0 t) m (λ a. refl)
    (λ a b. rw (ne_eqb (digit (m / 10)) (code "0") (omega arith)))
    (λ a. rw (ne_eqb (digit (m / 100)) (code "0") (omega arith)))

-- the text's lines
abbrev pub body : ℕ → List Row → List ℕ
body n rows = row_lines n rows ++ ascii ".e\n"

pub text-lines : (n : ℕ) (rows : List Row)
    → lines (text_of n rows) ≡ (ascii ".i " ++ digits n) ∷ ascii ".o 1" ∷ (ascii ".p " ++ digits (length rows)) ∷ lines (body n rows)
unfolding text_of plain
text-lines n rows =
    let count = ascii ".p " ++ digits (length rows) in
    lines-line (ascii ".i " ++ digits n) (ascii ".o 1\n" ++ (count ++ (code "\n" ∷ body n rows))) (digits-plain n)
    ∙ ap (λ ls. (ascii ".i " ++ digits n) ∷ ls) (lines-line (ascii ".o 1") (count ++ (code "\n" ∷ body n rows)) refl
    ∙ ap (λ ls. ascii ".o 1" ∷ ls) (lines-line count (body n rows) (digits-plain (length rows))))

-- the number read
pub text-count : (n : ℕ) (rows : List Row) → length rows < 1000 → read_count (text_of n rows) ≡ some (length rows)
unfolding read_count count_line after_bytes
text-count n rows l = ap count_line (text-lines n rows) ∙ digits_decimal (length rows) l ∙ digits-read (length rows) l
