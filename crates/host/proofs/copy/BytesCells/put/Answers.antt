use Rattle.std.proofs.Common.{◌∙◌}
use Rattle.host.proofs.Bytes.{word-more}
use Rattle.host.proofs.copy.BytesCells.put.Goals as goal

pub returns-clause-written : goal.returns-clause-written
returns-clause-written c = λ words run l e. word-more _ _ words run _ _ (c.copy_from_slice.ensures.after ∙ c.to_le_bytes.ensures) l e
