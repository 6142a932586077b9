use Rattle.std.proofs.Common.{◌≡◌, ◌∙◌, ap, rules, tests, take, drop}
use Rattle.std.specs.List.{prefix_len}
use Rattle.std.proofs.lemmas.Iterator.{YieldsList-from_slice}
use Rattle.std.proofs.lemmas.Iterator.Consumers.{count_from_yields_List}
use Rattle.std.proofs.lemmas.Iterator.Search.{YieldsList-from_take_while}
use Rattle.std.proofs.lemmas.List.Folds.{length-prefix_len}
use Rattle.dimacs.proofs.Fronts.{front_is, after_is}
use Rattle.dimacs.proofs.scan.split_front.Goals as goal

-- as many bytes as pass the test are of the kind that it tells
pub returns-clause-parts : goal.returns-clause-parts
returns-clause-parts g c = λ kind tells.
    let t = c.args.text.now in
    let n : c.count-n.result ≡ prefix_len kind t =
    count_from_yields_List c.take_while.result c.count-n.result c.count-n.ensures.ran
    (YieldsList-from_take_while _ kind (YieldsList-from_slice t cc) c.take_while.ensures.closure c.take_while.ensures.done
    (λ x b q k. search (rules, tests, tells)))
    ∙ length-prefix_len kind t in
    (c.split_at.ensures.front ∙ ap (λ k. take k t) n ∙ front_is kind t, c.split_at.ensures.back ∙ ap (λ k. drop k t) n ∙ after_is kind t)
