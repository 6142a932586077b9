-- The first k records are marked by their rows.
use Rattle.std.proofs.Common.{◌≡◌, map, take}
use Rattle.method.specs.Blank.{is_blank}
use Rattle.records.specs.Marks.{marked_by}
use Rattle.records.proofs.cubes.write_marks.Given as goal

abbrev pub invariant-loop-k : goal.invariant-loop-k
invariant-loop-k l = l.records ≡ marked_by (map is_blank (take l.k l.rows)) l.initial.records
