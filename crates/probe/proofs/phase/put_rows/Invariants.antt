use mathlib.Core.Path.{◌≡◌}
use lib.ListN.{take}
use Rattle.rules.specs.Answers.{over}
use Rattle.probe.specs.Phase.{pairs_of}
use Rattle.probe.proofs.phase.put_rows.Given as goal

abbrev pub invariant-loop-at : goal.invariant-loop-at
invariant-loop-at l = l.words ≡ over (pairs_of (take l.at l.rows)) l.initial.words
