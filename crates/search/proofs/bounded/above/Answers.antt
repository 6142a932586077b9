use mathlib.Core.Bool.{true}
use Rattle.search.proofs.Lowering.{ahead-next}
use Rattle.search.proofs.bounded.above.Goals as goal

pub first-requires : goal.first-requires
first-requires c =
    ahead-next _ _ c.args.q.now.asked c.args.row c.requires.ahead _ c.requires.place_in_bounds c.var_at-v.ensures true _ c.at_one.ensures
