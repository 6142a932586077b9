use Rattle.building.proofs.Making.{copied-next}
use Rattle.building.proofs.apart.copy_rows.Goals as goal

pub loop-k-preserved : goal.loop-k-preserved
loop-k-preserved c = copied-next _ _ _ _ _ c.loop-k.invariant c.loop-k-test.true c.requires
