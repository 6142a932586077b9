-- The loop has put the lines of the rows that came, and the others are left.
use Rattle.std.proofs.Common.{◌≡◌, ◌++◌}
use Rattle.rules.specs.Pla.{row_lines}
use Rattle.given.specs.Given.{rows_of, rows_left}
use Rattle.pla.specs.Written.{Writes}
use Rattle.pla.proofs.writer.Writer.put_rows.Given as goal

abbrev pub invariant-loop-row : goal.invariant-loop-row
invariant-loop-row l =
    (goal.iterator-loop-row).can_next l.row-iterator
    × (goal.iterator-loop-row).is_finite l.row-iterator
    × (l.yielded ++ rows_left l.row-iterator ≡ rows_of l.list)
    × Writes l.initial.self (row_lines l.list.inputs.count l.yielded) l.self
