use Rattle.sheets.proofs.Forms.{Within}
use Rattle.sheets.proofs.form.in_reach.Given as goal

abbrev pub invariant-loop-x : goal.invariant-loop-x
invariant-loop-x g l = Within g.N.Number.number l.n l.sheet l.x-index l.all
