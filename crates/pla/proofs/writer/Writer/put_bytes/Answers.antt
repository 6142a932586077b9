-- No byte is put; one more is put behind the first k.
use Rattle.std.proofs.Common.{refl, ◌<◌, length, get_or, add-one, arith}
use native.Mathlib.Nat.{add-zero, add_assoc}
use lib.Seq.{take-suc}
use Rattle.pla.proofs.Positions.{puts_none, puts-next}
use Rattle.pla.proofs.writer.Writer.put_bytes.Goals as goal

pub loop-k-init : goal.loop-k-init
loop-k-init c = (refl, refl, rw add-zero (puts_none c.args.self.now.at c.args.self.now.text.now (omega arith)))

pub loop-k-preserved : goal.loop-k-preserved
loop-k-preserved c =
    let new = c.args.new.now in
    let loop = c.loop-k in
    let here : loop.k < length new = omega arith in
    let more = puts-next (get_or new loop.k 0) (omega (arith, loop.invariant.2.next)) loop.invariant.2 in
    (loop.invariant.0, loop.invariant.1, rw (loop.invariant.0, add-one, take-suc new loop.k 0 here, ← add-one, ← add_assoc) more)
