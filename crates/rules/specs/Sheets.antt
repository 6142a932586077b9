-- Sheets: a run of signed numbers, in which 0 closes a clause.
use mathlib.Core.{Bool.Bool, Bool.true, Bool.false, Bool.not, Bool.cond, Bool.◌&&◌, Bool.◌||◌, List.List, List.[], List.◌∷◌}
use Rattle.std.specs.Prelude.{ℕ, ◌+◌}
use lib.{Dec.eqb, Dec.leb, IntN.ℤ, IntN.pos, IntN.negsuc, IntN.nat_abs, ListN.length, Signed.non_neg}
use Rattle.rules.specs.Words.{is_one, one}

-- A sheet has at most 8,192 numbers and 1,024 clauses.
abbrev pub max_numbers : ℕ
max_numbers = 8192

abbrev pub max_clauses : ℕ
max_clauses = 1024

-- The variable of a literal, and its sign: v stands for variable v at 1, -v for variable v at 0.
abbrev pub variable : ℤ → ℕ
variable z = nat_abs z

abbrev pub positive : ℤ → Bool
positive z = non_neg z

-- The literal is true at the setting.
abbrev pub is_true : ℕ → ℤ → Bool
is_true s z = cond (positive z) (is_one (variable z) s) (not (is_one (variable z) s))

-- The number closes a clause; and how many do.
abbrev pub closes : ℤ → Bool
closes (pos m) = eqb m 0
closes (negsuc m) = false

unfoldable pub clauses : List ℤ → ℕ
clauses [] = 0
clauses (z ∷ zs) = one (closes z) + clauses zs

-- Every clause has a literal that passes. `met`: the clause that is being read has one already.
unfoldable pub every_clause : (ℤ → Bool) → Bool → List ℤ → Bool
every_clause passes met [] = true
every_clause passes met (z ∷ zs) = cond (closes z) (met && every_clause passes false zs) (every_clause passes (met || passes z) zs)

-- The setting satisfies the sheet.
unfoldable pub satisfies : List ℤ → ℕ → Bool
satisfies sheet s = every_clause (is_true s) false sheet

-- The sheet ends in 0; `closed` says it of what was read before.
unfoldable pub ends_closed : Bool → List ℤ → Bool
ends_closed closed [] = closed
ends_closed closed (z ∷ zs) = ends_closed (closes z) zs

-- Every number lies in -n..n.
unfoldable pub in_reach : ℕ → List ℤ → Bool
in_reach n [] = true
in_reach n (z ∷ zs) = leb (variable z) n && in_reach n zs

unfoldable pub well_formed : ℕ → List ℤ → Bool
well_formed n sheet = leb (length sheet) max_numbers && (leb (clauses sheet) max_clauses && (ends_closed true sheet && in_reach n sheet))
