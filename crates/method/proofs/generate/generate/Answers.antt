use mathlib.Core.Path.{◌≡◌, refl, ap, ◌∙◌}
use mathlib.Core.Bool.{not}
use mathlib.Core.Option.{Option}
use Prim.Native.Nat.{ℕ}
use Rattle.rules.specs.Search.{found}
use Rattle.search.proofs.Answered.{none-found}
use native.Mathlib.Omega.{arith}
use Rattle.method.proofs.Generates.{begin, still-asked, one_more, no_more, at_end, all-given}
use Rattle.method.proofs.generate.generate.Goals as goal

pub loop-count-init : goal.loop-count-init
loop-count-init c = begin _ _ _ _ _ _ _ c.requires.asked refl c.requires.k_in_bounds

pub next_from-requires-clause-asked : goal.next_from-requires-clause-asked
next_from-requires-clause-asked c = still-asked _ _ _ _ _ _ _ c.requires.asked refl c.requires.k_in_bounds _ _ _ c.loop-count.invariant

pub returns-in_default : goal.returns-in_default
returns-in_default c = no_more _ _ _ _ _ _ _ c.requires.asked refl c.requires.k_in_bounds _ _ _ c.loop-count.invariant c.in_default.ensures (omega arith)

pub loop-count-preserved : goal.loop-count-preserved
loop-count-preserved c =
    one_more _ _ _ _ _ _ _ c.requires.asked refl c.requires.k_in_bounds _ _ _ c.loop-count.invariant _ c.in-Some.ensures c.loop-count-test.true _ c.widen-row.ensures

pub next_from-requires-2-clause-asked : goal.next_from-requires-2-clause-asked
next_from-requires-2-clause-asked c =
    let e : c.loop-count.count ≡ c.args.k = omega arith in
    let g = at_end _ _ _ _ _ _ _ c.requires.asked refl c.requires.k_in_bounds _ _ _ e c.loop-count.invariant in
    still-asked _ _ _ _ _ _ _ c.requires.asked refl c.requires.k_in_bounds _ _ _ g

pub returns : goal.returns
returns c =
    let e : c.loop-count.count ≡ c.args.k = omega arith in
    let g = at_end _ _ _ _ _ _ _ c.requires.asked refl c.requires.k_in_bounds _ _ _ e c.loop-count.invariant in
    all-given _ _ _ _ _ _ _ c.requires.asked refl c.requires.k_in_bounds _ _ g _
    (none-found _ _ c.is_none-complete.ensures ∙ ap (λ (o : Option ℕ). not (found o)) c.next_from-2.ensures)
