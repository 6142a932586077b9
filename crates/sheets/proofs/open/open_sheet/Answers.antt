use Rattle.std.proofs.Common.{◌≡◌, false, cond, ◌&&◌, ◌||◌, ◌+◌, drop, get_or, pos, sym, ◌∙◌, arith, length, ◌≤◌, ◌<◌, w32, SFits, to_z-of_z, drop_of_length-le}
use Rattle.rules.specs.Sheets.{closes, every_clause}
use Rattle.sheets.specs.Numbers.{numbers_of}
use Rattle.sheets.specs.Open.{is_open}
use Rattle.sheets.proofs.Bytes.{number-at, numbers-length}
use Rattle.sheets.proofs.Signs.{zero-closes, other-closes}
use Rattle.sheets.proofs.Clauses.{literal-in, every-turn}
use Rattle.sheets.proofs.open.open_sheet.Goals as goal
use Rattle.sheets.proofs.open.open_sheet.Goals.{After-number-literal, then-literal-eq0+else-not-met, else-literal-eq0+then-not-met-2, else-literal-eq0+else-not-met-2}

-- the literal is the next number
within : (c : After-number-literal) → c.loop-bytes.bytes-index < length (numbers_of c.args.sheet.now)
within c = omega (arith, numbers-length c.args.sheet.now _ c.as_chunks.ensures.front)

here : (c : After-number-literal) → c.number-literal.result ≡ get_or (numbers_of c.args.sheet.now) c.loop-bytes.bytes-index (pos 0)
here c = c.number-literal.ensures ∙ number-at c.args.sheet.now _ c.as_chunks.ensures.front _ c.loop-bytes-test.true

fits : (c : After-number-literal) → SFits w32 c.number-literal.result
fits c = record { sfits = c.number-literal.type_inv }

-- what is left to read, by the literal
next : (c : After-number-literal)
    → let passes = is_open c.args.row in let z = c.number-literal.result in let met = c.loop-bytes.met in
    let rest = drop (c.loop-bytes.bytes-index + 1) (numbers_of c.args.sheet.now) in
    cond (closes z) (met && every_clause passes false rest) (every_clause passes (met || passes z) rest) ≡ every_clause passes false (numbers_of c.args.sheet.now)
next c = sym (every-turn _ _ _ (within c) (here c) _ _) ∙ c.loop-bytes.invariant

pub returns-then-not-met : goal.returns-then-not-met
returns-then-not-met c =
    let d = (goal.at.returns-then-not-met c).After-number-literal in
    rw (zero-closes _ (fits d) c.if-literal-eq0.true, c.if-not-met.true) at (next d)

pub open_literal-met-requires : goal.open_literal-met-requires
open_literal-met-requires c =
    let d = (goal.at.open_literal-met-requires c).After-number-literal in
    let f = fits d in
    rw to_z-of_z (literal-in _ _ _ (within d) (here d) _ c.requires (other-closes c.number-literal.result c.if-literal-eq0.false))

pub loop-bytes-preserved : goal.loop-bytes-preserved
loop-bytes-preserved c =
    let d = (goal.at.loop-bytes-preserved c).After-number-literal in
    let f = fits d in
    let more = next d in
    elim c.if-literal-eq0.branch [
      | then-literal-eq0+else-not-met w ↦ rw w.met-is (rw (zero-closes _ f w.if-literal-eq0.true, w.if-not-met.false) at more)
      | else-literal-eq0+then-not-met-2 w ↦
          rw (w.met-is, w.open_literal-met.ensures, to_z-of_z) (rw (other-closes _ w.if-literal-eq0.false, w.if-not-met-2.true) at more)
      | else-literal-eq0+else-not-met-2 w ↦ rw (w.met-is, w.if-not-met-2.false) (rw (other-closes _ w.if-literal-eq0.false, w.if-not-met-2.false) at more)
    ]

pub returns : goal.returns
unfolding every_clause
returns c =
    let past : length (numbers_of c.args.sheet.now) ≤ c.loop-bytes.bytes-index = omega (arith, numbers-length c.args.sheet.now _ c.as_chunks.ensures.front) in
    rw drop_of_length-le at c.loop-bytes.invariant
