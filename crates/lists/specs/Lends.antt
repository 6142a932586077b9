-- What is lent to list building in place of two sheets.
use Rattle.std.specs.Prelude.{◌≡◌, List, ℕ, ◌≤◌, ℤ, length}
use Rattle.rules.specs.Sheets.{max_clauses, satisfies}
use Rattle.building.specs.declared.lent.Lent.{Lent}
use Rattle.building.specs.Built.{on_rows, on_at, off_at}

-- By the order, the settings that each sheet asks for; and on's rows are no more than clauses in a sheet.
pub record Lends (order : List ℕ) (on off : List ℤ) (lent : Lent) : Type 0 where
  pub ordered : lent.order.now ≡ order
  pub on_asks : on_at lent ≡ satisfies on
  pub off_asks : off_at lent ≡ satisfies off
  pub few : length (on_rows lent) ≤ max_clauses
