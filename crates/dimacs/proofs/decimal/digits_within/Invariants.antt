use Rattle.std.proofs.Common.{◌≡◌, ◌≤◌, drop}
use Rattle.dimacs.specs.Parts.{digits_within}
use Rattle.dimacs.proofs.decimal.digits_within.Given as goal

abbrev pub invariant-loop-b : goal.invariant-loop-b
invariant-loop-b l = (digits_within l.low l.high 0 l.part ≡ digits_within l.low l.high l.sum (drop l.b-index l.part)) × (l.sum ≤ l.high)
