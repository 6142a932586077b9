use lib.ListN.{take}
use Rattle.sheets.specs.Numbers.{numbers_of}
use Rattle.probe.proofs.Finds.{Finding}
use Rattle.probe.proofs.phase.settings.Given as goal

abbrev pub invariant-loop-count : goal.invariant-loop-count
invariant-loop-count l = Finding l.order (numbers_of l.on) (take l.ons l.initial.cells) l.ons l.initial.words l.count l.last.0 l.held l.cells l.words
