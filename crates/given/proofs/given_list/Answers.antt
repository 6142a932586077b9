-- Answered by name, so that a wrong bound is refused on this fact.
use Rattle.std.proofs.Common.{rules}
use Rattle.given.proofs.given_list.Goals as goal

pub invariant_of-result-clause-few : goal.invariant_of-result-clause-few
invariant_of-result-clause-few c = search rules
