use Rattle.dimacs.specs.Bodies.{numbers_of}
use Rattle.dimacs.proofs.Writing.{Written}
use Rattle.dimacs.proofs.body.Body.write.Given as goal

abbrev pub invariant-loop-cell : goal.invariant-loop-cell
invariant-loop-cell l = Written (numbers_of l.fn.self) (numbers_of l.rest) l.fn.numbers l.numbers l.cell-index
