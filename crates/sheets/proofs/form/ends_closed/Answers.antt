use Rattle.std.proofs.Common.{rules, true, ◌≡◌, MatchOption, option_copied}
use Rattle.rules.specs.Sheets.{closes}
use Rattle.sheets.proofs.Forms.{ends-closed}
use Rattle.sheets.proofs.form.ends_closed.Goals as goal

pub returns : goal.returns
returns g c =
    let h : MatchOption (option_copied c.last.result) (c.is_none_or.result ≡ true) (λ x. c.is_none_or.result ≡ closes (g.N.Number.number x)) = search rules in
    ends-closed g.N.Number.number c.is_none_or.result c.args.sheet.now (rw c.last.ensures.value at h)
