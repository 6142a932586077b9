use Rattle.std.proofs.Common.{rules, refl, pos, get_or, ◌∙◌, le_trans, to_z-of_z, w32, SFits}
use Rattle.sheets.proofs.Signs.{zero-closes, other-closes}
use Rattle.sheets.proofs.Clauses.{form-reach, literal-in}
use Rattle.sheets.proofs.Barring.{is-empty, finished, literal-turn, has_room, skip-turn, write-turn}
use Rattle.sheets.proofs.barred.bar.Goals as goal
use Rattle.sheets.proofs.barred.bar.Goals.{then-literal-eq0, else-literal-eq0, in-Some, in_default}

pub bounds-rows-count : goal.bounds-rows-count
bounds-rows-count c =
    let z = get_or c.args.sheet.now c.loop-literal.literal-index (pos 0) in
    let f : SFits w32 z = search rules in
    has_room _ _ _ _ _ _ c.loop-literal.invariant z c.loop-literal-test.true refl (zero-closes z f c.if-literal-eq0.true) _ refl c.requires.sheet_in_bounds

pub with_literal-clause-requires : goal.with_literal-clause-requires
with_literal-clause-requires c =
    let z = get_or c.args.sheet.now c.loop-literal.literal-index (pos 0) in
    let f : SFits w32 z = search rules in
    let p = literal-in _ _ z c.loop-literal-test.true refl _ (form-reach _ _ c.requires.sheet_value) (other-closes z c.if-literal-eq0.false) in
    rw to_z-of_z (p.0, le_trans p.1 c.args.n.few)

pub loop-literal-preserved : goal.loop-literal-preserved
loop-literal-preserved c =
    let z = get_or c.args.sheet.now c.loop-literal.literal-index (pos 0) in
    let f : SFits w32 z = search rules in
    let i = c.loop-literal.invariant in
    let h = c.loop-literal-test.true in
    elim c.if-literal-eq0.branch [
      | then-literal-eq0 w ↦
          let closes = zero-closes z f w.if-literal-eq0.true in
          let empty = w.clause-is ∙ is-empty _ w.dashes-then-literal-eq0.ensures in
          rw (w.rows-is, w.count-is)
          (elim w.match-clause.branch [
            | in-Some w' ↦ rw (w'.rows-is, w'.count-is) (write-turn _ _ _ _ _ _ i z h refl closes _ empty _ w'.in-Some.is c.requires.sheet_in_bounds)
            | in_default w' ↦ rw (w'.rows-is, w'.count-is) (skip-turn _ _ _ _ _ _ i z h refl closes _ empty w'.in_default.is)
          ])
      | else-literal-eq0 w ↦
          rw (w.rows-is, w.count-is)
          (literal-turn _ _ _ _ _ _ i z h refl (other-closes z w.if-literal-eq0.false) _ (w.clause-is ∙ (rw to_z-of_z at w.with_literal-clause.ensures)))
    ]

pub returns-clause-rows_after : goal.returns-clause-rows_after
returns-clause-rows_after c = (finished _ _ _ _ _ _ c.loop-literal.invariant c.loop-literal-test.false).0

pub returns-clause-value : goal.returns-clause-value
returns-clause-value c = (finished _ _ _ _ _ _ c.loop-literal.invariant c.loop-literal-test.false).1
