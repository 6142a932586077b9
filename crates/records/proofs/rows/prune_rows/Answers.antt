-- The order is 1..n, and no sheet is asked.
use Rattle.std.proofs.Common.{ap, ◌∙◌}
use native.Mathlib.Nat.{zero-add}
use lib.Seq.{length-take-le, take-length}
use Rattle.rules.specs.Words.{natural}
use Rattle.rules.specs.Calls.{words_of}
use Rattle.records.proofs.Judged.{asked-all}
use Rattle.records.proofs.rows.prune_rows.Goals as goal

pub prune-requires-clause-asked : goal.prune-requires-clause-asked
unfolding words_of
prune-requires-clause-asked c =
    rw (c.natural_order.ensures ∙ ap natural (length-take-le _ _ c.args.n.few), zero-add, take-length) (asked-all _ _ c.args.n.few c.requires)
