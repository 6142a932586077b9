-- Lent bytes as signed numbers.
use Rattle.std.specs.Prelude.{List, map, ℕ, ℤ}
use Rattle.std.specs.Int.{w32}
use Rattle.std.proofs.Common.{to_z}
use Rattle.rules.specs.Calls.{words_of}

-- the signed numbers of a run of bytes
abbrev pub numbers_of : List ℕ → List ℤ
numbers_of bs = map (to_z w32) (words_of bs)
