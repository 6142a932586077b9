use mathlib.Core.Path.{refl, ap, ◌∙◌}
use Rattle.rules.specs.Method.{widen, widen_at}
use Rattle.method.proofs.Widens.{place-more, place_end}
use Rattle.method.proofs.widen.widen.Goals as goal

pub loop-v-init : goal.loop-v-init
loop-v-init c = refl

pub loop-v-preserved : goal.loop-v-preserved
loop-v-preserved c = place-more _ _ _ _ c.loop-v-test.true _ c.without_if_free-row.ensures ∙ c.loop-v.invariant

pub returns : goal.returns
unfolding widen
returns c = place_end _ _ _ _ c.loop-v-test.false ∙ c.loop-v.invariant ∙ ap (widen_at _ _ _) c.full-row.ensures
