-- The rows of the first k records are copied.
use Rattle.std.proofs.Common.{◌≡◌, map, take}
use Rattle.records.specs.Marks.{row_of}
use Rattle.records.proofs.cubes.copy_rows.Given as goal

abbrev pub invariant-loop-k : goal.invariant-loop-k
invariant-loop-k l = take l.k l.rows ≡ map row_of (take l.k l.records)
