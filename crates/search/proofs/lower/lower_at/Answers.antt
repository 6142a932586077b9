use Rattle.search.proofs.Lowering.{keeps-zero, takes-zero, keeps-one}
use Rattle.search.proofs.lower.lower_at.Goals as goal

pub returns-then-not-is_one : goal.returns-then-not-is_one
returns-then-not-is_one c =
    keeps-zero c.args.q.now _ c.args.held.row c.requires.ahead _ c.requires.place_in_bounds c.var_at-v.ensures _ c.at_zero-low.ensures _ c.if-not-is_one.ensures c.requires.met

pub returns-in-Some : goal.returns-in-Some
returns-in-Some c = takes-zero c.args.q.now _ c.args.held.row c.requires.ahead _ c.requires.place_in_bounds c.var_at-v.ensures _ c.at_zero-low.ensures _ c.in-Some.ensures

pub returns-in-None : goal.returns-in-None
returns-in-None c =
    keeps-one c.args.q.now _ c.args.held.row c.requires.ahead _ c.requires.place_in_bounds c.var_at-v.ensures _ c.at_zero-low.ensures c.in-None.ensures
    _ c.at_one.ensures _ c.if-not-is_one.ensures c.requires.met
