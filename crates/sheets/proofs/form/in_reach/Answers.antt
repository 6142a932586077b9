use Rattle.sheets.proofs.Forms.{one-within, all-within}
use Rattle.sheets.proofs.form.in_reach.Goals as goal

pub loop-x-preserved : goal.loop-x-preserved
loop-x-preserved g c =
    one-within g.N.Number.number _ _ _ _ c.loop-x.invariant c.loop-x-test.true c.x-item.result c.x-item.is _ c.is_within-all.ensures

pub returns : goal.returns
returns g c = all-within g.N.Number.number _ _ _ _ c.loop-x.invariant c.loop-x-test.false
