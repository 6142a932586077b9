use Rattle.std.proofs.Common.{refl, sym, ap, ◌∙◌, add-one, arith, length, take, set, ◌<◌, ◌+◌, [], ◌∷◌, ◌++◌}
use lib.Seq.{take-suc-set}
use Rattle.rules.specs.Words.{natural, counting}
use Rattle.rules.proofs.Counted.{natural-more}
use Rattle.rules.proofs.order.natural_order.Goals as goal

pub loop-place-init : goal.loop-place-init
unfolding counting
loop-place-init c = refl

pub loop-place-preserved : goal.loop-place-preserved
loop-place-preserved c =
    let loop = c.loop-place in
    let here : loop.place < length loop.order = omega (arith, loop.auto.order, c.loop-place-test.true) in
    ap (λ m. take m (set loop.order loop.place (loop.place + 1))) (add-one loop.place)
    ∙ take-suc-set loop.order loop.place (loop.place + 1) here
    ∙ ap (λ l. l ++ ((loop.place + 1) ∷ [])) loop.invariant
    ∙ sym (natural-more loop.place) ∙ ap natural (sym (add-one loop.place))
