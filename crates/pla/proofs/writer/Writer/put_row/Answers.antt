-- The characters put are the row's, and what closes its line is put behind them.
use Rattle.std.proofs.Common.{rules, arith}
use Rattle.rules.proofs.PlaSteps.{row_lines-one}
use Rattle.pla.proofs.Writing.{writes-row, writes-then}
use Rattle.pla.proofs.writer.Writer.put_row.Goals as goal

pub returns : goal.returns
returns c =
    let chars = writes-row c.args.row (λ v ch p. search rules) c.put_each.ensures in
    rw row_lines-one (writes-then (omega arith) chars c.put_bytes.ensures)
