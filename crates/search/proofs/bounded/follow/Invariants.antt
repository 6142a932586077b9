use mathlib.Core.Path.{◌≡◌}
use Rattle.search.specs.Question.{followed}
use Rattle.search.proofs.bounded.follow.Given as goal

abbrev pub invariant-loop-v : goal.invariant-loop-v
invariant-loop-v l = l.row ≡ followed l.q.order.now l.start.0 l.v-index
