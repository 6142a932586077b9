use Rattle.std.proofs.Common.{◌==◌}
use Rattle.sheets.proofs.Forms.{Counted}
use Rattle.sheets.proofs.order.times.Given as goal

abbrev pub invariant-loop-w : goal.invariant-loop-w
invariant-loop-w l = Counted (λ w. w == l.v) l.order l.w-index l.found
