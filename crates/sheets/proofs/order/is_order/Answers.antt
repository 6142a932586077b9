use Rattle.std.proofs.Common.{arith}
use Rattle.sheets.proofs.Orders.{once, not-once, tested, sized, missized}
use Rattle.sheets.proofs.order.is_order.Goals as goal

pub returns-then-order-n : goal.returns-then-order-n
returns-then-order-n c = missized _ _ c.if-order-n.true

pub returns-then-times-ne1 : goal.returns-then-times-ne1
returns-then-times-ne1 c =
    sized _ _ _ c.if-order-n.false (not-once _ _ _ c.loop-v.invariant (omega (arith, c.loop-v-test.true)) _ c.times.ensures c.if-times-ne1.true)

pub loop-v-preserved : goal.loop-v-preserved
loop-v-preserved c = once _ _ _ c.loop-v.invariant (omega (arith, c.loop-v-test.true)) _ c.times.ensures c.if-times-ne1.false

pub returns : goal.returns
returns c = sized _ _ _ c.if-order-n.false (tested _ _ _ c.loop-v.invariant (omega (arith, c.loop-v-test.false)))
