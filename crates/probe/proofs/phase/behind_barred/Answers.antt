use native.Mathlib.Omega.{arith}
use Rattle.rules.specs.Calls.{words_of}
use Rattle.search.proofs.Queries.{asked, few-barred}
use Rattle.probe.proofs.Phases.{words-behind}
use Rattle.probe.proofs.phase.behind_barred.Goals as goal

pub settings-requires-clause-asked : goal.settings-requires-clause-asked
unfolding words_of
settings-requires-clause-asked c =
    let r = c.requires in
    let b = c.bar-ons.ensures in
    asked c.args.inputs.count _ r.sheet_value _ _ _ b.rows_after b.value _ c.args.inputs.few r.order_value

pub returns-clause-words_after : goal.returns-clause-words_after
unfolding words_of
returns-clause-words_after c =
    let r = c.requires in
    let b = c.bar-ons.ensures in
    words-behind c.args.order.now c.args.on.now _ _ _ _ _ _ b.rows_after b.value (omega (arith, few-barred c.args.inputs.count c.args.on.now r.sheet_value))
    c.put_rows.ensures c.settings.ensures.words_after
