use mathlib.Core.Path.{◌≡◌}
use lib.ListN.{drop}
use Rattle.rules.specs.Method.{widen_at}
use Rattle.search.specs.Good.{good_of}
use Rattle.method.proofs.widen.widen.Given as goal

abbrev pub invariant-loop-v : goal.invariant-loop-v
invariant-loop-v l = widen_at (drop l.v-index l.off.order.now) l.off.order.now (good_of l.off) l.row ≡ widen_at l.off.order.now l.off.order.now (good_of l.off) l.initial.row
