use mathlib.Core.Path.{sym}
use Rattle.std.proofs.lemmas.Bool.{and_parts}
use Rattle.probe.proofs.Phases.{placed-asked}
use Rattle.probe.proofs.phase.bench_phase_bytes.Goals as goal

pub in_place-requires : goal.in_place-requires
in_place-requires c =
    placed-asked c.args.n _ _ (sym c.if-not-is_inputs.ensures) (sym c.if-not-is_order.ensures) (and_parts _ _ (sym c.if-not-well_formed_bytes.ensures)).1
