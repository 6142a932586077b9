use Rattle.std.proofs.Common.{◌≡◌}
use Rattle.rules.specs.Words.{each_once}
use Rattle.sheets.proofs.order.is_order.Given as goal

abbrev pub invariant-loop-v : goal.invariant-loop-v
invariant-loop-v l = each_once l.v l.order ≡ each_once l.n l.order
