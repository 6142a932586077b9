use Rattle.std.proofs.Common.{rules, ◌≡◌, true, ◌==◌, length, ◌%◌}
use Rattle.sheets.proofs.Bytes.{numbers-are}
use Rattle.sheets.proofs.form.well_formed_bytes.Goals as goal

pub returns-then-is_empty : goal.returns-then-is_empty
returns-then-is_empty c =
    let e : (length c.args.sheet.now % 4 == 0) ≡ true = search rules in
    rw (e, ← numbers-are c.args.sheet.now _ c.as_chunks.ensures.front) c.is_sheet.ensures
