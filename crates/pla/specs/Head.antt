-- The lines above the rows: `.i n`, `.o 1`, `.p count`.
use Rattle.std.specs.Prelude.{List, ◌++◌, ℕ}
use Rattle.rules.specs.Dimacs.{ascii}
use Rattle.rules.specs.Pla.{digits}

abbrev pub head_of : ℕ → ℕ → List ℕ
head_of n count = ascii ".i " ++ (digits n ++ (ascii "\n.o 1\n.p " ++ (digits count ++ ascii "\n")))
