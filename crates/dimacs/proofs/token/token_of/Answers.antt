use Rattle.std.proofs.Common.{◌≡◌, ◌-◌, negsuc, arith}
use Rattle.rules.specs.Dimacs.{token_of, signed}
use Rattle.dimacs.specs.Parts.{decimal_within}
use Rattle.dimacs.proofs.TokenKinds.{minus, negated}
use Rattle.dimacs.proofs.token.token_of.Goals as goal

-- behind a minus
pub returns-in-Some-clause-kind : goal.returns-in-Some-clause-kind
returns-in-Some-clause-kind c =
    let e : token_of c.args.v c.args.part.now ≡ signed (λ m. negsuc (m - 1)) (decimal_within 1 c.args.v c.in-Some.digits.now) = grind (arith, minus) in
    grind (arith, negated)
