use mathlib.Core.Path.{sym, ◌∙◌}
use Rattle.rules.specs.Words.{dashes}
use Rattle.probe.proofs.Pairs.{over-none, over-take}
use Rattle.probe.proofs.phase.put_rows.Goals as goal

pub loop-at-init : goal.loop-at-init
loop-at-init c = sym (over-none _)

pub loop-at-preserved : goal.loop-at-preserved
loop-at-preserved c = c.put.ensures ∙ over-take _ _ _ _ dashes c.loop-at-test.true c.requires c.loop-at.invariant
