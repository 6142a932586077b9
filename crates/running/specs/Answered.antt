-- No contract can name what a file holds: there are two texts, each of one byte more than a text may have at the most, and the answer is theirs.
use Rattle.std.specs.Prelude.{◌≡◌, List, ℕ, ◌+◌, ◌≤◌, length}
use Rattle.rules.specs.Dimacs.{max_bytes}
use Rattle.rules.specs.Program.{output}
use Rattle.printing.specs.Printed.{printed, printed_size}
use Rattle.std.specs.Io.KnownBytes.{Appends}
use Rattle.std.specs.declared.option.Option.{Option}

-- The bytes in the lent run afterwards, and their count.
pub record Answered (size : ℕ) (new old : List ℕ) : Type 0 where
  pub on_text : List ℕ
  pub off_text : List ℕ
  pub on_room : length on_text ≤ max_bytes + 1
  pub off_room : length off_text ≤ max_bytes + 1
  pub counted : size ≡ printed_size (output on_text off_text) (length old)
  pub left : new ≡ printed (output on_text off_text) old

-- The count of the bytes printed.
pub record Ran (size : ℕ) : Type 0 where
  pub on_text : List ℕ
  pub off_text : List ℕ
  pub all : size ≡ length (output on_text off_text)

-- The bytes that a writer holds have grown by what is printed for the two texts, where it says what it holds.
pub record Wrote (size : ℕ) (old new : Option (List ℕ)) : Type 0 where
  pub ran : Ran size
  pub grown : Appends old new (output ran.on_text ran.off_text)
