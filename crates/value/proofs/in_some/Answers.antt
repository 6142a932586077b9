-- The rows are asked one after the other.
use Rattle.std.proofs.Common.{rules}
use Rattle.std.proofs.lemmas.Iterator.Search.{any_from_yields_List}
use Rattle.rules.specs.Words.{holds}
use Rattle.given.proofs.Runs.{listed}
use Rattle.value.proofs.Rows.{in_some-any}
use Rattle.value.proofs.in_some.Goals as goal

pub returns : goal.returns
returns c =
    let asked = any_from_yields_List (λ r. holds r c.args.s.0) c.any.new.self _ c.any.result c.any.ensures.ran (listed _) (λ x b q k. search rules) in
    rw in_some-any (search rules)
