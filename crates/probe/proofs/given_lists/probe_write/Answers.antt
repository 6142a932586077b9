-- A length is at most 6,933, so all of it is answered.
use mathlib.Core.Path.{ap, ◌∙◌}
use native.Mathlib.Omega.{arith}
use lib.ListN.{length}
use Rattle.rules.specs.Calls.{rows_in}
use Rattle.pla.proofs.Verdict.{answer-few}
use Rattle.probe.specs.Packed.{packed}
use Rattle.probe.proofs.given_lists.probe_write.Goals as goal

pub returns-clause-value : goal.returns-clause-value
returns-clause-value c =
    let a = c.args in
    let e = c.write.ensures.result_value in
    let few = answer-few a.n a.count (rows_in a.care.now a.value.now) (length a.text.now) in
    c.count_reply.ensures.whole (rw e (omega (arith, few))) ∙ ap packed e
