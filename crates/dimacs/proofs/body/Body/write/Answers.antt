use Rattle.std.proofs.Common.{◌≡◌, rules, w32, to_z, of_z}
use Rattle.dimacs.proofs.Writing.{written-next}
use Rattle.dimacs.proofs.body.Body.write.Goals as goal

-- the next number has a cell, and is written there
pub loop-cell-preserved : goal.loop-cell-preserved
loop-cell-preserved c =
    let (follows, shorter) = rw c.in-Ok-Some.field-0-is at c.in-Ok-Some.ensures in
    let kept : to_z w32 (of_z w32 c.in-Ok-Some.z) ≡ c.in-Ok-Some.z = search rules in
    rw kept (written-next _ follows c.loop-cell.invariant)
