use mathlib.Core.Path.{◌≡◌, subst, ◌∙◌}
use borrow.Author.Rules.{rules}
use native.Mathlib.Omega.{arith}
use Prim.Native.Nat.{◌<◌, ◌≤◌}
use lib.ListN.{length}
use lib.Seq.{length-take-le}
use Rattle.search.specs.Question.{Asked}
use Rattle.method.proofs.Prunes.{begin, now-asked, count-within, one_more, no_more, turn, all-blanked, all-counted, split, first-size, changed}
use Rattle.method.proofs.prune.prune.Goals as goal
use Rattle.method.proofs.prune.prune.Goals.{else-judge, then-judge}

pub loop-at-init : goal.loop-at-init
loop-at-init c = begin _ _ _ _ _ _ (split _ c.args.ons _ c.requires.count_in_bounds) (first-size _ _ _ c.requires.count_in_bounds)

pub judge-requires-clause-asked : goal.judge-requires-clause-asked
judge-requires-clause-asked c =
    now-asked _ _ _ _ _ _ _ c.loop-at.invariant (subst (Asked _ _ _) (split _ c.args.ons _ c.requires.count_in_bounds) c.requires.asked)

pub overflow_add-stay : goal.overflow_add-stay
overflow_add-stay c =
    let e : c.loop-at.stay ≤ c.loop-at.at = count-within _ _ _ _ _ _ _ c.loop-at.invariant in
    search (rules, e)

pub loop-at-preserved : goal.loop-at-preserved
loop-at-preserved c =
    let j = c.judge.ensures {-?-} in
    let l : c.loop-at.at < length c.loop-at.rows = omega arith in
    elim c.if-judge.branch [
      | then-judge w ↦ turn _ _ _ _ _ _ _ c.loop-at.invariant l _ j.value _ j.rows_after _ (w.stay-is ∙ one_more _ _ w.if-judge.true)
      | else-judge w ↦ turn _ _ _ _ _ _ _ c.loop-at.invariant l _ j.value _ j.rows_after _ (w.stay-is ∙ no_more _ _ w.if-judge.false)
    ]

pub returns : goal.returns
returns c =
    let h = length-take-le _ _ c.requires.count_in_bounds in
    let e : c.loop-at.at ≡ length c.loop-at.rows = omega arith in
    record {
      rows_after = changed _ _ _ c.requires.count_in_bounds _ _ (c.loop-at.auto.rows ∙ h) (all-blanked _ _ _ _ _ _ _ c.loop-at.invariant e);
      value = all-counted _ _ _ _ _ _ _ c.loop-at.invariant e;
    }
