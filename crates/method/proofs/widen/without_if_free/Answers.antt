use Rattle.method.proofs.Widens.{literal-stays, literal-goes}
use Rattle.method.proofs.widen.without_if_free.Goals as goal

pub returns-then-is_some : goal.returns-then-is_some
returns-then-is_some c = literal-stays c.args.off.now _ c.args.row _ c.without-wider.ensures _ c.find.ensures c.if-is_some.ensures

pub returns-else-is_some : goal.returns-else-is_some
returns-else-is_some c = literal-goes c.args.off.now _ c.args.row _ c.without-wider.ensures _ c.find.ensures c.if-is_some.ensures
