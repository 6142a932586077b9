-- The text of a list: its parts, and its length.
use Rattle.std.proofs.Common.{◌≡◌, ℕ, ◌+◌, ◌*◌, ◌≤◌, List, [], refl, ◌++◌, length, append_assoc, arith}
use Rattle.std.proofs.Math.Nat.{mul-le-mul}
use Rattle.rules.specs.declared.Row.{Row}
use Rattle.rules.specs.Dimacs.{ascii}
use Rattle.rules.specs.Pla.{row_lines, text_of}
use Rattle.rules.proofs.PlaText.{row-size, rows-size, text-size}
use Rattle.rules.proofs.PlaSteps.{row_lines-append, row_lines-one}
use Rattle.rules.proofs.Lines.{digits-three}
use Rattle.pla.specs.Head.{head_of}
use Rattle.pla.proofs.Positions.{put_none}

-- the lines above the rows, those of the rows, and the last
pub text-parts : (n : ℕ) (rows : List Row) → text_of n rows ≡ head_of n (length rows) ++ (row_lines n rows ++ ascii ".e\n")
unfolding text_of
text-parts n rows = simp append_assoc

pub lines_most : (count n : ℕ) → count ≤ 256 → n ≤ 24 → count * (n + 3) ≤ 6912
lines_most count n a b = mul-le-mul {m₂ = 27} a (omega arith)

pub row_lines_none : (n : ℕ) → row_lines n [] ≡ []
unfolding row_lines
row_lines_none n = refl

-- what the parts of a text add up to
pub ruleset sizes = (append_assoc, put_none, row_lines_none, text-parts, text-size, rows-size, row-size, row_lines-append, row_lines-one, digits-three, lines_most)
