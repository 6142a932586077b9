-- The rows are tested one after the other.
use Rattle.std.proofs.Common.{rules}
use Rattle.std.proofs.lemmas.Iterator.Search.{all_from_yields_List}
use Rattle.rules.specs.Words.{is_row}
use Rattle.given.proofs.Runs.{are_rows-all, listed}
use Rattle.given.proofs.are_rows.Goals as goal

pub returns : goal.returns
returns c =
    rw are_rows-all
    (all_from_yields_List (λ r. is_row c.args.n.count r) c.all.new.self _ _ c.all.ensures.ran (listed c.args.rows) (λ x b q k. search rules))
