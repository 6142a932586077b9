use Rattle.search.specs.Good.{good_of}
use Rattle.search.proofs.Following.{Climbing}
use Rattle.search.proofs.bounded.find_from.Given as goal

abbrev pub invariant-loop-at : goal.invariant-loop-at
invariant-loop-at l = Climbing l.q.order.now l.start.0 (good_of l.q) l.at l.row
