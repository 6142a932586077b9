-- The generated rows may be asked for.
use Rattle.building.proofs.Making.{part-asked}
use Rattle.building.proofs.build.build.Goals as goal

pub prune-count-requires-clause-asked : goal.prune-count-requires-clause-asked
prune-count-requires-clause-asked c =
    part-asked c.args.lent.now _ _ _ c.on_rows-ons.ensures c.in_ok-generated.ensures.within c.in_ok-generated.ensures.made
