use Rattle.search.proofs.Queries.{few-clauses, asked, outside-barred}
use Rattle.search.proofs.calls.satisfied_from.Goals as goal

pub bar-count-requires-clause-sheet_in_bounds : goal.bar-count-requires-clause-sheet_in_bounds
bar-count-requires-clause-sheet_in_bounds c = few-clauses _ _ c.requires.sheet_value

pub seek_from-requires : goal.seek_from-requires
seek_from-requires c =
    asked _ _ c.requires.sheet_value _ _ _ c.bar-count.ensures.rows_after c.bar-count.ensures.value _ c.args.n.few c.requires.order_value

pub returns : goal.returns
returns c =
    outside-barred _ _ c.requires.sheet_value _ _ _ c.bar-count.ensures.rows_after c.bar-count.ensures.value _ _ _ c.seek_from.ensures
