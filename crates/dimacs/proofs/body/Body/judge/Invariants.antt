use Rattle.std.proofs.Common.{◌≡◌, ◌≤◌, ◌+◌, length}
use Rattle.dimacs.specs.Bodies.{numbers_of, nothing, judged}
use Rattle.dimacs.proofs.body.Body.judge.Given as goal

abbrev pub invariant-loop-z : goal.invariant-loop-z
invariant-loop-z l = record {
  same : judged l.tally (numbers_of l.rest) ≡ judged nothing (numbers_of l.fn.self);
  zeros : l.tally.zeros ≤ l.tally.numbers;
  passed : l.tally.numbers + length l.rest.text.now ≤ length l.fn.self.text.now;
}

abbrev pub decreases-loop-z : goal.decreases-loop-z
decreases-loop-z l = length l.rest.text.now
