-- A lent run of cube records after pruning.
use Rattle.std.specs.Prelude.{Bool, not, List, [], ◌∷◌, map}
use Rattle.rules.specs.declared.Row.{Row}
use Rattle.rules.specs.Answers.{Verdict, given, refused}
use Rattle.records.specs.declared.cubes.Cube.{Cube}

abbrev pub row_of : Cube → Row
row_of c = record { care = c.care; value = c.value }

-- the record with this mark: care and value stay
abbrev pub with_mark : Bool → Cube → Cube
with_mark dropped c = record { care = c.care; value = c.value; dropped = dropped }

-- the first records with these marks, the others as they were
unfoldable pub marked_by : List Bool → List Cube → List Cube
marked_by [] records = records
marked_by (d ∷ ds) [] = []
marked_by (d ∷ ds) (c ∷ records) = with_mark d c ∷ marked_by ds records

-- A row that stays is kept, any other dropped. A refusal leaves all as it was.
abbrev pub marked : Verdict (List Bool) → List Cube → List Cube
marked (given stays) records = marked_by (map not stays) records
marked (refused r) records = records
