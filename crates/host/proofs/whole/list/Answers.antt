-- What is built is the list that is asked for.
use mathlib.Core.Path.{◌≡◌, sym, ◌∙◌}
use mathlib.Core.List.{List, []}
use Prim.Native.Nat.{◌/◌}
use borrow.Author.Rules.{rules}
use Rattle.rules.specs.declared.Row.{Row}
use Rattle.rules.specs.Answers.{Verdict}
use Rattle.rules.specs.Calls.{host_whole, whole_for}
use Rattle.sheets.specs.Numbers.{numbers_of}
use Rattle.search.specs.Question.{good}
use Rattle.host.proofs.InForm.{asked, in-form}
use Rattle.host.proofs.whole.list.Goals as goal
use Rattle.host.proofs.whole.list.Goals.{After-build}

pub invariant_of-lent-clause-asked : goal.invariant_of-lent-clause-asked
invariant_of-lent-clause-asked c =
    rw c.in_ok-order.ensures.words
    (asked _ _ _ _ (sym c.in_ok-order.ensures.when) (sym c.if-not-well_formed_bytes.ensures) (sym c.if-not-well_formed_bytes-2.ensures) c.in_ok-n.n.few)

listed : (c : After-build) {v : Verdict (List Row)}
    → v ≡ whole_for [] c.in_ok-order.order.now (good (numbers_of c.args.on.now) [] []) (good (numbers_of c.args.off.now) [] []) (c.min.result / 4)
    → v ≡ host_whole c.args.n c.args.order.now c.args.on.now c.args.off.now c.args.care.now c.args.value.now
listed c h =
    let e = c.in_ok-n.ensures in
    let o = c.in_ok-order.ensures in
    rw e.given at (rw (o.words, c.min.ensures) at h
    ∙ in-form _ c.args.order.now c.args.on.now c.args.off.now (sym o.when) (sym c.if-not-well_formed_bytes.ensures) (sym c.if-not-well_formed_bytes-2.ensures)
    (rw e.given (sym e.when)) c.args.care.now c.args.value.now)

pub returns-in_err-built : goal.returns-in_err-built
returns-in_err-built c =
    let v = rw c.in_err-built.was at (listed (goal.at.returns-in_err-built c).After-build c.build.ensures.verdict) in
    record { result_value = rw (← v) (search rules); care_after = rw (← v); value_after = rw (← v) }

pub returns : goal.returns
returns c =
    let v = rw c.in_ok-built.was at (listed (goal.at.returns c).After-build c.build.ensures.verdict) in
    let b = c.copy_bytes.ensures in
    record { result_value = rw (← v) (search rules); care_after = rw (← v) b.care_after; value_after = rw (← v) b.value_after }
