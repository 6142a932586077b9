-- Pruning where the rows stand: a row that goes is blanked. A blank holds no setting, and no row of a list is one.
use Rattle.std.specs.Prelude.{Bool, cond, ◌&&◌, List, [], ◌∷◌, ℕ, eqb, get_or, set}
use Rattle.rules.specs.declared.Row.{Row}

abbrev pub blank : Row
blank = record { care = 0; value = 1 }

abbrev pub is_blank : Row → Bool
is_blank r = eqb r.care 0 && eqb r.value 1

-- the rows judged so far, blanked where they go, and the rest
unfoldable pub blanked : List Bool → List Row → List Row
blanked [] rows = rows
blanked (stays ∷ more) [] = []
blanked (stays ∷ more) (r ∷ rows) = cond stays r blank ∷ blanked more rows

-- the row at a place stays as it is, or is blanked
abbrev pub judged_at : Bool → List Row → ℕ → List Row
judged_at stays rows at = set rows at (cond stays (get_or rows at blank) blank)

-- the rows that are no blanks
unfoldable pub solid : List Row → List Row
solid [] = []
solid (r ∷ rows) = cond (is_blank r) (solid rows) (r ∷ solid rows)
