use mathlib.Core.Path.{ap, ◌∙◌}
use Rattle.rules.specs.Calls.{words_of}
use lib.ListN.{set}
use lib.Seq.{set-set}
use Rattle.std.proofs.lemmas.List.{get_or_default}
use Rattle.method.proofs.Judges.{others-asked}
use Rattle.method.proofs.prune.judge.Goals as goal

pub invariant_of-others : goal.invariant_of-others
unfolding words_of
invariant_of-others c = record { asked = others-asked c.args.at c.requires.asked; same = c.requires.asked.ordered }

pub returns-then-stays-clause-rows_after : goal.returns-then-stays-clause-rows_after
returns-then-stays-clause-rows_after c = rw c.if-stays.true (set-set _ _ _ _ ∙ ap (set _ _) (get_or_default _ _ _ _ c.requires.at_in_bounds))
