-- A printed text in the lent run: over its first bytes, where the run has room for the longest text; else nothing is written.
use Rattle.std.specs.Prelude.{cond, List, ℕ, ltb, length}
use Rattle.rules.specs.Answers.{over}

-- The longest text that is printed has 6,933 bytes.
abbrev pub max_printed : ℕ
max_printed = 6933

-- The run afterwards, and the count of the bytes written: 0 says that there is no room, since every text has a byte.
unfoldable pub printed : List ℕ → List ℕ → List ℕ
printed text old = cond (ltb (length old) max_printed) old (over text old)

unfoldable pub printed_size : List ℕ → ℕ → ℕ
printed_size text room = cond (ltb room max_printed) 0 (length text)
