use lib.ListN.{take}
use Rattle.sheets.specs.Numbers.{numbers_of}
use Rattle.method.specs.Lent.{behind}
use Rattle.method.proofs.Prunes.{Pruning}
use Rattle.method.proofs.prune.prune.Given as goal

abbrev pub invariant-loop-at : goal.invariant-loop-at
invariant-loop-at l = Pruning l.order (numbers_of l.counting) (take l.ons l.fn.rows) (behind l.ons l.count l.fn.rows) l.rows l.stay l.at
