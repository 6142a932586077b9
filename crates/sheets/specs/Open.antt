-- A literal against a partial setting.
use Rattle.std.specs.Prelude.{Bool, not, ◌||◌, ℤ}
use Rattle.rules.specs.declared.Row.{Row}
use Rattle.rules.specs.Words.{fixes}
use Rattle.rules.specs.Sheets.{variable, is_true}

-- the row does not fix the literal's variable against it
abbrev pub is_open : Row → ℤ → Bool
is_open r z = not (fixes r (variable z)) || is_true r.value z
