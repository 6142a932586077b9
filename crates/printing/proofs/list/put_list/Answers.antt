-- The order is 1..n and the runs have room for 256 rows, so the call's answer is what the program shows.
use Rattle.std.proofs.Common.{◌≡◌, refl, ap, ◌∙◌, replicate}
use Rattle.std.proofs.lemmas.List.{length-take-le}
use Rattle.std.proofs.lemmas.Result.{err_from_is_err_and}
use Rattle.rules.specs.Words.{natural}
use Rattle.printing.specs.Results.{read_of}
use Rattle.printing.proofs.Listing.{list-refused, list-printed}
use Rattle.printing.proofs.list.put_list.Goals.{After-natural_order}
use Rattle.printing.proofs.list.put_list.Goals as goal

ordered : (c : After-natural_order) → c.natural_order.new.order ≡ natural c.args.on.inputs.count
ordered c = c.natural_order.ensures ∙ ap natural (length-take-le c.args.on.inputs.count (replicate 24 0) c.args.on.inputs.few)

pub returns-in_err-count : goal.returns-in_err-count
returns-in_err-count c =
    let in_order = ordered (goal.at.returns-in_err-count c).After-natural_order in
    let line = list-refused _ _ in_order (read_of c.args.on) (read_of c.args.off) _ c.in_err-count.ensures.result_value in
    let answer = err_from_is_err_and c.from_residual.result c.from_residual.ensures.1 in
    rw (answer.1, answer.2) (line, refl)

pub returns : goal.returns
returns c =
    let in_order = ordered (goal.at.returns c).After-natural_order in
    let list = c.in_ok-count.ensures in
    list-printed _ _ in_order (read_of c.args.on) (read_of c.args.off) _ _ _ _ _ list.result_value list.care_after list.value_after _ _ _ c.requires
    c.write.ensures.result_value c.write.ensures.text_after
