use mathlib.Core.Path.{sym, ap, ◌∙◌}
use mathlib.Core.List.{List}
use Prim.Native.Nat.{ℕ, ◌<◌}
use native.Mathlib.Omega.{arith}
use lib.ListN.{length, set, length-append, length-drop}
use Rattle.sheets.proofs.Over.{over-more}
use Rattle.method.proofs.cells.WordsCells.put.Goals as goal

pub returns-clause-written : goal.returns-clause-written
returns-clause-written c = λ words run l e.
    let m = ap length e ∙ length-append words _ in
    let n = length-drop (length words) run in
    let inside : c.args.k < length run = omega arith in
    ap (λ (now : List ℕ). set now c.args.k c.args.word) e ∙ over-more words run c.args.word c.args.k (sym l) inside
