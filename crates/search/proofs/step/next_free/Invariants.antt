use Rattle.search.proofs.Skipping.{Passing}
use Rattle.search.proofs.step.next_free.Given as goal

abbrev pub invariant-loop-at : goal.invariant-loop-at
invariant-loop-at l = Passing l.q.swift.now l.care l.fn.place.0 l.at
