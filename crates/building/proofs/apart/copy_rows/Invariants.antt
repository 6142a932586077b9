use Rattle.std.proofs.Common.{◌≡◌, take}
use Rattle.rules.specs.Answers.{over}
use Rattle.building.proofs.apart.copy_rows.Given as goal

abbrev pub invariant-loop-k : goal.invariant-loop-k
invariant-loop-k l = l.kept ≡ over (take l.k l.rows) l.initial.kept
