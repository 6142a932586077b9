-- Cube records in three runs of words. A mark that is not 0 is set.
use Rattle.std.specs.Prelude.{Bool, not, List, [], ◌∷◌, map, ℕ, eqb}
use Rattle.rules.specs.Words.{one}
use Rattle.records.specs.declared.cubes.Cube.{Cube}

abbrev pub is_set : ℕ → Bool
is_set mark = not (eqb mark 0)

abbrev pub cube_of : ℕ → ℕ → ℕ → Cube
cube_of care value mark = record { care = care; value = value; dropped = is_set mark }

unfoldable pub cubes_in : List ℕ → List ℕ → List ℕ → List Cube
cubes_in [] values marks = []
cubes_in (c ∷ cares) [] marks = []
cubes_in (c ∷ cares) (v ∷ values) [] = []
cubes_in (c ∷ cares) (v ∷ values) (m ∷ marks) = cube_of c v m ∷ cubes_in cares values marks

-- The words of records.
abbrev pub cares_of : List Cube → List ℕ
cares_of records = map (λ c. c.care) records

abbrev pub values_of : List Cube → List ℕ
values_of records = map (λ c. c.value) records

abbrev pub marks_of : List Cube → List ℕ
marks_of records = map (λ c. one c.dropped) records

-- Marks as 0 and 1: by the words lent, and by which rows stay.
abbrev pub set_marks : List ℕ → List ℕ
set_marks marks = map (λ m. one (is_set m)) marks

abbrev pub gone_marks : List Bool → List ℕ
gone_marks stays = map (λ s. one (not s)) stays
