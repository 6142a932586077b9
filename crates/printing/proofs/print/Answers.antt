-- There is room for a refusal's line where there is room for the longest text.
use Rattle.std.proofs.Common.{arith, length, ap}
use Rattle.printing.proofs.Lines.{line-most}
use Rattle.printing.proofs.print.Goals as goal

pub put_line-requires : goal.put_line-requires
put_line-requires c =
    let f = c.in-Err.refused in
    record { fits = omega (arith, line-most f.inputs.count f.refusal f.inputs.few, ap length c.new-writer.ensures.text, ap length c.in-Err.ensures.1) }
