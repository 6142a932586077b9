use mathlib.Core.Path.{sym, subst}
use native.Mathlib.Omega.{arith}
use Rattle.search.specs.Question.{Ahead}
use Rattle.search.proofs.Following.{at_last, start-found, next-ahead, found-above, climb-more, climbed, followed-ahead}
use Rattle.search.proofs.bounded.find_from.Goals as goal

pub first-requires : goal.first-requires
first-requires c = subst (Ahead _ _) (sym c.follow-row.ensures) (followed-ahead _ _ c.args.q.now.asked _ (omega arith))

pub returns-in-Some : goal.returns-in-Some
returns-in-Some c = start-found _ _ _ _ c.follow-row.ensures c.args.q.now.asked.ordered _ c.in-Some.ensures

pub loop-at-init : goal.loop-at-init
loop-at-init c = at_last _ _ _ _ c.follow-row.ensures c.in_default.ensures

pub above-requires-clause-ahead : goal.above-requires-clause-ahead
above-requires-clause-ahead c =
    next-ahead _ _ _ c.args.q.now.asked _ _ c.loop-at.invariant c.loop-at-test.true _ c.var_at.ensures _ c.without-row.ensures

pub returns-in-Some-above : goal.returns-in-Some-above
returns-in-Some-above c =
    found-above _ _ _ c.args.q.now.asked _ _ c.loop-at.invariant c.loop-at-test.true _ c.var_at.ensures _ c.without-row.ensures _ c.in-Some-above.ensures

pub loop-at-preserved : goal.loop-at-preserved
loop-at-preserved c =
    climb-more _ _ _ c.args.q.now.asked _ _ c.loop-at.invariant c.loop-at-test.true _ c.var_at.ensures _ c.without-row.ensures c.in_default-above.ensures

pub returns : goal.returns
returns c = climbed _ _ _ c.args.q.now.asked.ordered _ c.loop-at-test.false _ c.loop-at.invariant
