-- What the writer takes is the printed text, which is in the first bytes of the run.
use Rattle.std.proofs.Common.{◌≡◌, sym, subst, take}
use Rattle.std.proofs.lemmas.List.{take_at}
use Rattle.std.proofs.lemmas.Result.{on_ok_weaker}
use Rattle.std.specs.Io.KnownBytes.{Appends}
use Rattle.rules.specs.Program.{output}
use Rattle.printing.specs.Printed.{printed, printed_size}
use Rattle.running.specs.Answered.{Ran}
use Rattle.running.proofs.print_to.Goals as goal

pub returns-clause-wrote : goal.returns-clause-wrote
unfolding printed printed_size
returns-clause-wrote g c =
    let a = c.answer-size.ensures in
    let ran : Ran c.answer-size.result = record { on_text = a.on_text; off_text = a.off_text; all = a.counted } in
    let first : take c.answer-size.result c.answer-size.new.out ≡ output a.on_text a.off_text = rw a.left (take_at _ _ _ (sym a.counted)) in
    on_ok_weaker c.write_all.result (λ h. record { ran = ran; grown = subst (Appends _ _) first h }) c.write_all.ensures.bytes
