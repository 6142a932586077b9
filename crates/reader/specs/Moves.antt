-- Where a reader stands after its steps.
use Rattle.std.specs.Prelude.{List, ℕ, zero, suc}
use Rattle.std.proofs.Math.Option.{Option, none, some}
use Rattle.rules.specs.Dimacs.{Step, step}

-- A step moves on behind its token; where none is left, the position stays.
abbrev pub moved_by : Option Step → ℕ → ℕ
moved_by none position = position
moved_by (some s) position = s.place

-- The position after one step, and after k of them.
abbrev pub moved : ℕ → List ℕ → ℕ → ℕ
moved v text position = moved_by (step v text position) position

unfoldable pub moved_on : ℕ → List ℕ → ℕ → ℕ → ℕ
moved_on v text position zero = position
moved_on v text position (suc k) = moved v text (moved_on v text position k)
