-- The first `count` cells are the sheet that is read.
use Rattle.std.proofs.Common.{sym, length}
use Rattle.std.proofs.lemmas.List.{length-take-le}
use Rattle.printing.proofs.Verdicts.{Sheet, sheet-read}
use Rattle.printing.proofs.sheet.read_sheet.Goals.{In_ok-n}
use Rattle.printing.proofs.sheet.read_sheet.Goals as goal

read : (c : In_ok-n) → Sheet c.args.text.now (length c.args.numbers.now) c.read.new.numbers c.in_ok-n.n c.in_ok-n.count
read c = sheet-read _ c.in_ok-n.ensures.reply c.in_ok-n.ensures.memory

pub slice_bounds-result-end : goal.slice_bounds-result-end
slice_bounds-result-end c = sym (length-take-le _ _ (read (goal.at.slice_bounds-result-end c).In_ok-n).within)

pub invariant_of-result : goal.invariant_of-result
invariant_of-result c = record { few = (read (goal.at.invariant_of-result c).In_ok-n).few }

pub returns : goal.returns
returns c = sym (read (goal.at.returns c).In_ok-n).sheet
