-- The loop has copied the first k words.
use Rattle.std.proofs.Common.{◌≡◌, take}
use Rattle.rules.specs.Calls.{words_of}
use Rattle.host.proofs.words.copy_words.Given as goal

abbrev pub invariant-loop-k : goal.invariant-loop-k
invariant-loop-k l = take l.k l.words ≡ take l.k (words_of l.bytes)
