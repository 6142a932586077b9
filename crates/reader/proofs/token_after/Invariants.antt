-- After some steps the reader still holds the text, and stands behind as many tokens.
use Rattle.std.proofs.Common.{◌≡◌}
use Rattle.reader.specs.Moves.{moved_on}
use Rattle.reader.proofs.token_after.Given as goal

abbrev pub invariant-loop : goal.invariant-loop
invariant-loop l = record {
  same_text : l.reader.text.now ≡ l.text;
  stands : l.reader.position ≡ moved_on l.v l.text l.position l.counter;
}
