use Rattle.search.proofs.Lowering.{met-end}
use Rattle.search.proofs.lower.lower.Goals as goal

pub loop-at-init : goal.loop-at-init
loop-at-init c = record { ahead = c.requires.ahead; met = c.requires.met; same = λ t f. f }

pub loop-at-preserved : goal.loop-at-preserved
loop-at-preserved c =
    let n = c.lower_at-held.ensures in record { ahead = n.ahead; met = n.met; same = λ t f. c.loop-at.invariant.same t (n.same t f) }

pub returns : goal.returns
returns c = let i = c.loop-at.invariant in i.same _ (met-end _ _ c.args.q.now.asked _ i.ahead _ c.loop-at-test.false _ i.met)
