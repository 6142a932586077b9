use lib.ListN.{take}
use Rattle.sheets.specs.Numbers.{numbers_of}
use Rattle.search.specs.Good.{good_of}
use Rattle.method.proofs.Generates.{Generating}
use Rattle.method.proofs.generate.generate.Given as goal

abbrev pub invariant-loop-count : goal.invariant-loop-count
invariant-loop-count l =
    Generating l.off.order.now (numbers_of l.on) (good_of l.off) (take l.ons l.initial.kept) l.ons l.k l.initial.kept l.count l.last.0 l.kept
