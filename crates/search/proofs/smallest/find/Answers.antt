use Rattle.search.proofs.Places.{none_passed}
use Rattle.search.proofs.Swift.{swift-asked}
use Rattle.search.proofs.smallest.find.Goals as goal

pub search-requires-clause-passed : goal.search-requires-clause-passed
search-requires-clause-passed c = none_passed (swift-asked c.args.q.now) c.args.row
