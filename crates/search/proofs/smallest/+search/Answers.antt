use mathlib.Core.Path.{sym, ◌∙◌}
use mathlib.Core.Bool.{true, false}
use borrow.Author.Rules.{rules}
use native.Mathlib.Omega.{arith}
use Rattle.search.proofs.Places.{all-passed}
use Rattle.search.proofs.Liveness.{live-good, left}
use Rattle.search.proofs.Skipping.{skip-passed, level-end, level-passed, level-zero, level-one}
use Rattle.search.proofs.Swift.{swift-asked}
use Rattle.search.proofs.smallest.+search.Goals as goal

pub returns-then-not-live : goal.returns-then-not-live
returns-then-not-live t c = sym (left _ _ _ _ _ (sym c.live.ensures ∙ c.if-not-live.true))

pub returns-then-here-q : goal.returns-then-here-q
returns-then-here-q t c =
    let q = swift-asked c.args.q.now in
    let p = all-passed _ _ c.args.row c.if-here-q.true (skip-passed _ c.args.row _ _ c.next_free-here.ensures c.requires.passed) in
    level-end _ _ _ _ c.next_free-here.ensures _ c.if-here-q.true
    (live-good _ _ _ _ _ p q.reach-a q.reach-b q.cares (sym c.live.ensures ∙ c.if-not-live.false))

pub search-requires : goal.search-requires
search-requires t c =
    let p = level-passed _ c.args.row _ _ c.next_free-here.ensures c.if-here-q.false _ c.var_at-v.ensures c.requires.passed false _ c.at_zero-low.ensures in
    (search rules, (omega arith, p))

pub returns-in-Some : goal.returns-in-Some
returns-in-Some t c =
    level-zero _ _ _ _ c.next_free-here.ensures c.if-here-q.false _ c.var_at-v.ensures _ _ c.at_zero-low.ensures _ c.in-Some.ensures

pub search-requires-2 : goal.search-requires-2
search-requires-2 t c =
    let p = level-passed _ c.args.row _ _ c.next_free-here.ensures c.if-here-q.false _ c.var_at-v.ensures c.requires.passed true _ c.at_one-high.ensures in
    (search rules, (omega arith, p))

pub returns : goal.returns
returns t c =
    level-one _ _ _ _ c.next_free-here.ensures c.if-here-q.false _ c.var_at-v.ensures _ _ c.at_zero-low.ensures c.in_default.ensures _ c.at_one-high.ensures _ c.search-2.ensures
