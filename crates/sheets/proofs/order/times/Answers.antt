use Rattle.std.proofs.Common.{◌∙◌}
use Rattle.sheets.proofs.Forms.{one-counted, all-counted, times-count}
use Rattle.sheets.proofs.order.times.Goals as goal

pub loop-w-preserved : goal.loop-w-preserved
loop-w-preserved c = one-counted _ _ _ _ c.loop-w.invariant c.loop-w-test.true 0 _ c.from-found.ensures

pub returns : goal.returns
returns c = all-counted _ _ _ _ c.loop-w.invariant c.loop-w-test.false ∙ times-count c.args.v c.args.order.now
