use Rattle.std.proofs.Common.{rules, ◌≡◌, ◌∙◌, refl, length, arith}
use lib.ListN.{length-set}
use Rattle.probe.proofs.Runs.{built_more, built_all}
use Rattle.probe.proofs.cubes.cubes_in.Goals as goal

pub loop-i-preserved : goal.loop-i-preserved
loop-i-preserved c =
    let a = c.args in
    let cares : length a.care ≡ 256 = search rules in
    let values : length a.value ≡ 256 = search rules in
    let marks : length a.marks ≡ 256 = search rules in
    let so = c.loop-i.invariant in
    (built_more a.care a.value a.marks _ _ _ (omega arith, omega arith) (omega arith) (omega arith) refl so.0, length-set _ _ _ ∙ so.1)

pub returns-clause-value : goal.returns-clause-value
returns-clause-value c =
    let a = c.args in
    let cares : length a.care ≡ 256 = search rules in
    let values : length a.value ≡ 256 = search rules in
    let marks : length a.marks ≡ 256 = search rules in
    let so = c.loop-i.invariant in
    built_all a.care a.value a.marks c.loop-i.i _ (omega arith, omega arith) (omega arith) (omega arith) so.0
