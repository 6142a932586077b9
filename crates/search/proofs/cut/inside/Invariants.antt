use mathlib.Core.Path.{◌≡◌}
use mathlib.Core.Bool.{◌||◌}
use lib.ListN.{drop}
use Rattle.search.specs.Question.{covers_some}
use Rattle.search.proofs.cut.inside.Given as goal

abbrev pub invariant-loop-kept : goal.invariant-loop-kept
invariant-loop-kept l = covers_some l.row l.rows ≡ (l.met || covers_some l.row (drop l.kept-index l.rows))
