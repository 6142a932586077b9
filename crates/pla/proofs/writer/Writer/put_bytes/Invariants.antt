-- The first k bytes are put, and the writer stands where it stood.
use Rattle.std.proofs.Common.{◌≡◌, ◌+◌, take}
use Rattle.pla.specs.Put.{Puts}
use Rattle.pla.proofs.writer.Writer.put_bytes.Given as goal

abbrev pub invariant-loop-k : goal.invariant-loop-k
invariant-loop-k l =
    (l.self.at ≡ l.initial.self.at)
    × (l.self.text.ghost_name ≡ l.initial.self.text.ghost_name)
    × Puts l.initial.self.at (take l.k l.new) l.initial.self.text.now (l.initial.self.at + l.k) l.self.text.now
