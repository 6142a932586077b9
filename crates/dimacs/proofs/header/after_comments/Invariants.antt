use Rattle.std.proofs.Common.{◌≡◌, false, length}
use Rattle.rules.specs.Dimacs.{after_comments}
use Rattle.dimacs.proofs.header.after_comments.Given as goal

abbrev pub invariant-loop-comment : goal.invariant-loop-comment
invariant-loop-comment l = after_comments false l.rest ≡ after_comments false l.text

abbrev pub decreases-loop-comment : goal.decreases-loop-comment
decreases-loop-comment l = length l.rest
