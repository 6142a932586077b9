use Rattle.search.proofs.Lowering.{ahead-first}
use Rattle.search.proofs.lower.find_first.Goals as goal

pub first-requires : goal.first-requires
first-requires c = ahead-first c.args.q.now.asked _ c.dashes.ensures
