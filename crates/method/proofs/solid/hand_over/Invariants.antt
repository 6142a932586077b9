use mathlib.Core.Path.{◌≡◌}
use lib.ListN.{length, take}
use Rattle.rules.specs.Calls.{cares, values}
use Rattle.method.specs.Blank.{solid}
use Rattle.method.proofs.solid.hand_over.Given as goal

abbrev pub invariant-loop-row : goal.invariant-loop-row
invariant-loop-row g l = record {
  care_same : g.C.Cells.name l.care ≡ g.C.Cells.name l.initial.care;
  care_is : g.C.Cells.now l.care ≡ g.C.Cells.with (cares (solid (take l.row-index l.rows))) (g.C.Cells.now l.initial.care);
  value_same : g.V.Cells.name l.value ≡ g.V.Cells.name l.initial.value;
  value_is : g.V.Cells.now l.value ≡ g.V.Cells.with (values (solid (take l.row-index l.rows))) (g.V.Cells.now l.initial.value);
  size : l.count ≡ length (solid (take l.row-index l.rows));
}
