-- A clause as the row that it bars: the settings at which none of its literals is true.
use Rattle.std.specs.Prelude.{not, cond, List, [], ◌∷◌, ℤ, Option, Some, None}
use Rattle.rules.specs.declared.Row.{Row}
use Rattle.rules.specs.Words.{fixes, dashes, fixed_at}
use Rattle.rules.specs.Sheets.{variable, positive, is_true, closes}

-- a clause as far as it was read, without literals: the row that it bars, and no row once it has both signs of a variable
abbrev pub no_literals : Option Row
no_literals = Some dashes

-- with one more literal: its variable is fixed against it, and a variable fixed the other way has both signs
abbrev pub with_literal : ℤ → Option Row → Option Row
with_literal z None = None
with_literal z (Some r) = cond (fixes r (variable z)) (cond (is_true r.value z) None (Some r)) (Some (fixed_at (not (positive z)) (variable z) r))

-- a clause with both signs of a variable bars nothing
abbrev pub kept : Option Row → List Row → List Row
kept None rows = rows
kept (Some r) rows = r ∷ rows

-- the rows barred by the clauses, in order; `c` is the clause that is being read
unfoldable pub barred_from : Option Row → List ℤ → List Row
barred_from c [] = []
barred_from c (z ∷ zs) = cond (closes z) (kept c (barred_from no_literals zs)) (barred_from (with_literal z c) zs)

abbrev pub barred : List ℤ → List Row
barred sheet = barred_from no_literals sheet
