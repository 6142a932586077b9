use mathlib.Core.Path.{refl}
use native.Mathlib.Omega.{arith}
use Rattle.rules.specs.Calls.{words_of}
use Rattle.probe.proofs.Finds.{begin, still-asked, words-left, placed, one_more, no_more, all-found}
use Rattle.probe.proofs.phase.settings.Goals as goal

pub loop-count-init : goal.loop-count-init
loop-count-init c = begin _ _ _ _ _ c.requires.asked _ refl c.requires.ons_in_bounds

pub invariant_of-q : goal.invariant_of-q
unfolding words_of
invariant_of-q c =
    let r = c.requires in
    record { asked = still-asked _ _ _ _ _ r.asked _ _ _ _ _ c.loop-count.invariant; same = r.asked.ordered }

pub returns-in_default : goal.returns-in_default
unfolding words_of
returns-in_default c =
    let e = no_more _ _ _ _ _ c.requires.asked _ _ _ _ _ c.loop-count.invariant c.in_default.ensures (omega arith) in
    record { words_after = e.0; value = e.1 }

pub bounds-cells-at : goal.bounds-cells-at
bounds-cells-at c = (placed _ _ _ _ _ c.requires.asked _ _ _ _ _ c.loop-count.invariant _ c.place-at.ensures).free

pub put-requires : goal.put-requires
put-requires c = words-left _ _ _ _ _ c.requires.asked _ _ _ _ _ c.loop-count.invariant c.loop-count-test.true

pub loop-count-preserved : goal.loop-count-preserved
unfolding words_of
loop-count-preserved c =
    one_more _ _ _ _ _ c.requires.asked _ _ _ _ _ c.loop-count.invariant _ c.in-Some.ensures c.loop-count-test.true _ c.full-row.ensures _ c.place-at.ensures _ c.put.ensures

pub returns : goal.returns
returns c =
    let e = all-found _ _ _ _ _ c.requires.asked _ _ _ _ _ c.loop-count.invariant (omega arith) in
    record { words_after = e.0; value = e.1 }
