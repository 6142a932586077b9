-- No character is put; one more is put behind those of the first k variables.
use Rattle.std.proofs.Common.{arith}
use Rattle.pla.proofs.Writing.{each_none, each_more}
use Rattle.pla.proofs.writer.Writer.put_each.Goals as goal

pub loop-k-init : goal.loop-k-init
loop-k-init g c = each_none _ c.args.self.now (omega arith)

pub loop-k-preserved : goal.loop-k-preserved
loop-k-preserved g c = each_more _ c.char_of.result (omega arith) c.loop-k.invariant c.char_of.ensures c.put_bytes.ensures
