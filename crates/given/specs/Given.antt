-- When a given list is in form, what refusal 8 looks at; and the rows of one that is.
use Rattle.std.specs.Prelude.{Bool, ◌&&◌, List, ℕ, leb, length, take}
use Rattle.rules.specs.declared.Row.{Row}
use Rattle.rules.specs.Method.{max_rows}
use Rattle.rules.specs.Calls.{rows_in, are_rows}
use Rattle.given.specs.declared.list.Given.{Given}
use Rattle.given.specs.declared.rows.Rows.{Rows}

-- Its first `count` rows are there, are at most 256, and are rows of n inputs.
abbrev pub in_form : ℕ → ℕ → List Row → Bool
in_form n count rows = (leb count (length rows) && leb count max_rows) && are_rows n (take count rows)

abbrev pub rows_of : Given → List Row
rows_of list = rows_in list.care.now list.value.now

-- The rows that are still to come.
abbrev pub rows_left : Rows → List Row
rows_left rows = rows_in rows.care.now rows.value.now
