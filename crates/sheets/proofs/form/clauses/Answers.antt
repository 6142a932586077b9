use Rattle.std.proofs.Common.{◌∙◌}
use Rattle.sheets.proofs.Forms.{one-counted, all-counted, clauses-count}
use Rattle.sheets.proofs.form.clauses.Goals as goal

pub loop-x-preserved : goal.loop-x-preserved
loop-x-preserved g c =
    one-counted _ _ _ _ c.loop-x.invariant c.loop-x-test.true c.x-item.result _
    (rw (c.closes.ensures, c.x-item.is) at c.from-found.ensures)

pub returns : goal.returns
returns g c = all-counted _ _ _ _ c.loop-x.invariant c.loop-x-test.false ∙ clauses-count g.N.Number.number c.args.sheet.now
