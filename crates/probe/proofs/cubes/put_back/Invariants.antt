-- The words of the first i records are written.
use Rattle.std.proofs.Common.{◌≡◌, length, take}
use Rattle.probe.specs.Cubes.{cares_of, marks_of, values_of}
use Rattle.probe.proofs.cubes.put_back.Given as goal

abbrev pub invariant-loop-i : goal.invariant-loop-i
invariant-loop-i l =
    (take l.i l.care ≡ cares_of (take l.i l.fn.records))
    × (take l.i l.value ≡ values_of (take l.i l.fn.records))
    × (take l.i l.dropped ≡ marks_of (take l.i l.fn.records))
    × (length l.care ≡ 256)
    × (length l.value ≡ 256)
    × (length l.dropped ≡ 256)
