use mathlib.Core.Path.{refl, sym, ap, ◌∙◌}
use mathlib.Core.Bool.{Bool}
use lib.ListN.{get_or}
use Rattle.rules.specs.Words.{fixed_at}
use Rattle.search.proofs.Steps.{is-dashes}
use Rattle.search.proofs.Following.{followed-none, followed-more}
use Rattle.search.proofs.bounded.follow.Goals as goal

pub loop-v-init : goal.loop-v-init
loop-v-init c = is-dashes _ c.dashes-row.ensures ∙ sym (followed-none _ _)

pub loop-v-preserved : goal.loop-v-preserved
loop-v-preserved c =
    c.fixed_at-row.ensures ∙ ap (λ (b : Bool). fixed_at b (get_or c.args.q.now.order.now c.loop-v.v-index 0) c.loop-v.row) c.is_one.ensures ∙ followed-more _ _ _ _ refl _ c.loop-v.invariant
