-- What the records hold after pruning is what the calls' definition says of any run that is marked.
use mathlib.Core.Path.{◌≡◌, refl, ap}
use mathlib.Core.Bool.{Bool, not}
use mathlib.Core.List.{List, [], ◌∷◌, map}
use Rattle.rules.specs.Answers.{Verdict, given, refused}
use Rattle.rules.specs.Calls as calls
use Rattle.records.specs.declared.cubes.Cube.{Cube}
use Rattle.records.specs.Marks.{with_mark, marked_by, marked}

same-marked_by : (ds : List Bool) (records : List Cube) → marked_by ds records ≡ calls.marked_by with_mark ds records
unfolding marked_by calls.marked_by
same-marked_by [] records = refl
same-marked_by (d ∷ ds) [] = refl
same-marked_by (d ∷ ds) (c ∷ records) = ap (λ (x : List Cube). with_mark d c ∷ x) (same-marked_by ds records)

pub same-marked : (v : Verdict (List Bool)) (records : List Cube) → marked v records ≡ calls.marked with_mark v records
same-marked (given stays) records = same-marked_by (map not stays) records
same-marked (refused r) records = refl
