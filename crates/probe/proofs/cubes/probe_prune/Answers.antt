-- The answer and the marks are those of the rows lent; the records' words come back.
use mathlib.Core.Path.{refl, ap, ◌∙◌}
use native.Mathlib.Omega.{arith}
use Rattle.probe.specs.Cubes.{cares_of, values_of, marks_of}
use Rattle.probe.proofs.Runs.{Back, back, kept, marks-left}
use Rattle.probe.proofs.cubes.probe_prune.Goals as goal

pub returns : goal.returns
returns c =
    let a = c.args in
    let long = c.cubes_in.ensures.sizes in
    let b : Back a.care.now a.value.now a.dropped.now c.cubes_in.result = rw c.cubes_in.ensures.value (back _ _ _ (omega (arith, long), omega (arith, long))) in
    let p = c.pruned_array-answer.ensures in
    let left = c.put_back.ensures in
    record {
      value = rw (← b.rows, ← p.0) c.count_reply.ensures.counts;
      care_unchanged = left.care_after ∙ ap cares_of p.1 ∙ kept (λ c. c.care) (λ d c. refl) _ _ ∙ b.cares;
      value_unchanged = left.value_after ∙ ap values_of p.1 ∙ kept (λ c. c.value) (λ d c. refl) _ _ ∙ b.values;
      dropped_after = left.dropped_after ∙ ap marks_of p.1 ∙ marks-left _ _ _ ∙ rw (b.rows, b.marks);
    }
