use mathlib.Core.Path.{ap, ◌∙◌}
use Rattle.search.specs.Question.{found_as}
use Rattle.search.proofs.Lowering.{first-met, first-none}
use Rattle.search.proofs.lower.first.Goals as goal

pub returns-in_err-met : goal.returns-in_err-met
returns-in_err-met c = ap found_as c.from_residual.ensures ∙ first-none c.args.q.now _ c.args.row c.requires c.in_err-met.ensures

pub lower-requires-clause-met : goal.lower-requires-clause-met
lower-requires-clause-met c = first-met c.args.q.now _ c.args.row c.requires _ c.in_ok-met.ensures
