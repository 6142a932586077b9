use Rattle.std.proofs.Common.{rules, arith}
use Rattle.rules.specs.Pla.{setting_chars}
use Rattle.pla.proofs.Writing.{writes_none, writes-then}
use Rattle.printing.proofs.Lines.{writes-setting, no-values}
use Rattle.printing.proofs.line.Refused.put_setting.Goals as goal

pub returns-in-Collision : goal.returns-in-Collision
unfolding setting_chars
returns-in-Collision c =
    let chars = writes-setting c.in-Collision.s.0 (λ v ch p. search rules) c.put_each.ensures in
    rw c.in-Collision.is (writes-then (omega arith) c.put_bytes.ensures chars)

pub returns-in_default : goal.returns-in_default
returns-in_default c = rw (no-values c.args.self.refusal (λ s. c.in_default.not-Collision s)) (writes_none c.args.writer.now (omega arith))
