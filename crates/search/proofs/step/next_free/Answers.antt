use mathlib.Core.Path.{sym, ◌∙◌}
use Rattle.search.proofs.Skipping.{passing-none, passing-more, passing-stops, passing-end}
use Rattle.search.proofs.step.next_free.Goals as goal

pub loop-at-init : goal.loop-at-init
loop-at-init c = passing-none _ _ _

pub returns-then-not-is_one : goal.returns-then-not-is_one
returns-then-not-is_one c = passing-stops _ _ _ _ c.loop-at.invariant _ c.var_at.ensures (sym c.is_one.ensures ∙ c.if-not-is_one.true)

pub loop-at-preserved : goal.loop-at-preserved
loop-at-preserved c = passing-more _ _ _ _ c.loop-at.invariant c.loop-at-test.true _ c.var_at.ensures (sym c.is_one.ensures ∙ c.if-not-is_one.false)

pub returns : goal.returns
returns c = passing-end _ _ _ _ c.loop-at.invariant c.requires c.loop-at-test.false
