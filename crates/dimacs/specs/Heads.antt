-- What the answer for a header says.
use Rattle.std.specs.Prelude.{Option, Some, None}
use Rattle.std.proofs.Math.Option as math
use Rattle.rules.specs.Dimacs as rules
use Rattle.dimacs.specs.declared.header.Header.{Header}

abbrev pub head_of : Option Header → math.Option rules.Header
head_of (Some h) = math.some (record { inputs = h.body.inputs.count; clauses = h.clauses; body = h.body.text.now })
head_of None = math.none
