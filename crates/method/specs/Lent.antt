-- How the method's settings are asked for: by the clauses of a sheet in place, and by the rows that other clauses bar.
use Rattle.std.specs.Prelude.{Bool, List, [], ℕ, ℤ, take, drop, get_or, set}
use Rattle.rules.specs.declared.Row.{Row}
use Rattle.rules.specs.Search.{holds_some}
use Rattle.rules.specs.Method.{marks}
use Rattle.sheets.specs.Numbers.{numbers_of}
use Rattle.search.specs.Question.{good}
use Rattle.method.specs.Blank.{blank}

abbrev pub asks : List ℕ → List Row → ℕ → Bool
asks sheet barred = good (numbers_of sheet) [] barred

-- the row at a place holds a setting that satisfies the sheet and lies in none of the other rows
abbrev pub stays : List ℕ → List ℤ → List Row → ℕ → Bool
stays order sheet rows at = holds_some (good sheet [] (set rows at blank)) order (get_or rows at blank)

-- the count rows behind the first ons rows of a run, and which of them stay; a setting counts if it satisfies the sheet and lies in
-- none of the first rows
abbrev pub behind : ℕ → ℕ → List Row → List Row
behind ons count rows = take count (drop ons rows)

abbrev pub staying : List ℕ → List ℕ → ℕ → ℕ → List Row → List Bool
staying order counting ons count rows = marks (asks counting (take ons rows)) order (behind ons count rows)
