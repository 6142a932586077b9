use Rattle.rules.specs.Sheets.{closes}
use Rattle.sheets.proofs.Forms.{Counted}
use Rattle.sheets.proofs.form.clauses.Given as goal

abbrev pub invariant-loop-x : goal.invariant-loop-x
invariant-loop-x g l = Counted (λ x. closes (g.N.Number.number x)) l.sheet l.x-index l.found
