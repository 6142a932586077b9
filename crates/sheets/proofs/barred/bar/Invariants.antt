use Rattle.sheets.proofs.Barring.{Barring}
use Rattle.sheets.proofs.barred.bar.Given as goal

abbrev pub invariant-loop-literal : goal.invariant-loop-literal
invariant-loop-literal l = Barring l.sheet l.initial.rows l.literal-index l.rows l.count l.clause
