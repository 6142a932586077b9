use Rattle.std.proofs.Common.{◌∙◌, arith}
use Rattle.sheets.proofs.Bytes.{word-at}
use Rattle.sheets.proofs.numbers.word_at.Goals as goal

pub returns : goal.returns
returns c = c.from_le_bytes.ensures ∙ word-at c.args.bytes.now _ c.as_chunks.ensures.front _ (omega (arith, c.as_chunks.ensures.front_len))
