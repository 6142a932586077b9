use Rattle.std.proofs.Common.{◌≡◌, ◌∙◌, ap, rules, [], ◌∷◌, arith}
use Rattle.std.proofs.Math.Option.{get_or}
use Rattle.rules.specs.Dimacs.{is_gap, after_all, after_bytes, line_end}
use Rattle.dimacs.proofs.Bytes.{words}
use Rattle.dimacs.proofs.header.header_end.Goals as goal

-- gaps are passed, and then a carriage return
pub returns : goal.returns
returns c =
    let gap : c.split_front.result.1.now ≡ after_all is_gap c.args.text.now = search rules in
    let end : c.unwrap_or.result.now ≡ get_or (after_bytes (13 ∷ []) c.split_front.result.1.now) c.split_front.result.1.now = grind (arith, words) in
    c.line_end.ensures ∙ ap line_end (end ∙ ap (λ t. get_or (after_bytes (13 ∷ []) t) t) gap)
