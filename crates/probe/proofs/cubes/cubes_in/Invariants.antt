-- The first i records are built.
use Rattle.std.proofs.Common.{◌≡◌, length, take}
use Rattle.probe.specs.Cubes.{cubes_in}
use Rattle.probe.proofs.cubes.cubes_in.Given as goal

abbrev pub invariant-loop-i : goal.invariant-loop-i
invariant-loop-i l = (take l.i l.cube-items ≡ take l.i (cubes_in l.care l.value l.marks)) × (length l.cube-items ≡ 256)
