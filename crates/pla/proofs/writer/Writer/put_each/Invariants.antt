-- The loop has put the characters of the first k variables.
use Rattle.pla.specs.Written.{WritesEach}
use Rattle.pla.proofs.writer.Writer.put_each.Given as goal

abbrev pub invariant-loop-k : goal.invariant-loop-k
invariant-loop-k g l = WritesEach (λ v ch. goal.F-post g l.char_of (record { 0 = v }) ch) l.k l.initial.self l.self
