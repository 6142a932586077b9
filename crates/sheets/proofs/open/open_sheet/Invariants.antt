use Rattle.std.proofs.Common.{◌≡◌, false, drop}
use Rattle.rules.specs.Sheets.{every_clause}
use Rattle.sheets.specs.Numbers.{numbers_of}
use Rattle.sheets.specs.Open.{is_open}
use Rattle.sheets.proofs.open.open_sheet.Given as goal

abbrev pub invariant-loop-bytes : goal.invariant-loop-bytes
invariant-loop-bytes l =
    every_clause (is_open l.row) l.met (drop l.bytes-index (numbers_of l.sheet)) ≡ every_clause (is_open l.row) false (numbers_of l.sheet)
