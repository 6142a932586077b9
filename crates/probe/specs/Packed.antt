-- A reply in one number, for a program in another language: the number, how many values, the second and the first of them.
use Rattle.std.specs.Prelude.{List, [], ◌∷◌, ℕ, ◌+◌, ◌-◌, ◌*◌, ◌%◌, ℤ, pos, negsuc, length}
use Rattle.std.proofs.Math.Option.{Option, none, some}
use Rattle.rules.specs.Answers.{Reply}
use Rattle.rules.specs.Calls.{first}
use Rattle.rules.specs.Dimacs.{Token, number, ends, other, Step}

abbrev pub second : List ℕ → ℕ
second [] = 0
second (a ∷ []) = 0
second (a ∷ b ∷ vs) = b

abbrev pub packed : Reply → ℕ
packed r =
    r.number * 72057594037927936 + length r.values * 4503599627370496 + second r.values * 4294967296 + first r.values

-- The same, of values that may be counts: the first in 32 bits, the second in 20.
abbrev pub packed_counts : Reply → ℕ
packed_counts r =
    r.number * 72057594037927936 + length r.values * 4503599627370496 + second r.values % 1048576 * 4294967296 + first r.values % 4294967296

-- A token: 1 for a number and 2 for one below zero, each with its low 32 bits; 3 for `%`; 4 for any other.
abbrev pub packed_number : ℤ → ℕ
packed_number (pos m) = 2305843009213693952 + m % 4294967296
packed_number (negsuc m) = 2 * 2305843009213693952 + (4294967295 - m % 4294967296)

abbrev pub packed_token : Token → ℕ
packed_token (number z) = packed_number z
packed_token ends = 3 * 2305843009213693952
packed_token other = 4 * 2305843009213693952

-- A step: its token, and the place behind it in 29 bits; 0 where no token is left.
abbrev pub packed_step : Option Step → ℕ
packed_step none = 0
packed_step (some s) = packed_token s.token + s.place % 536870912 * 4294967296
