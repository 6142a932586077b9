-- The limits that the code states are those of the definitions.
use Rattle.std.proofs.Common.{◌≡◌, refl}
use Rattle.rules.specs.declared.TheConstants.{Row.MAX_INPUTS, Sheet.MAX_NUMBERS, Sheet.MAX_CLAUSES, List.MAX_ROWS, Text.MAX_BYTES}
use Rattle.rules.specs.{Words.max_inputs, Sheets.max_numbers, Sheets.max_clauses, Method.max_rows, Dimacs.max_bytes}

pub inputs-limit : MAX_INPUTS ≡ max_inputs
inputs-limit = refl

pub numbers-limit : MAX_NUMBERS ≡ max_numbers
numbers-limit = refl

pub clauses-limit : MAX_CLAUSES ≡ max_clauses
clauses-limit = refl

pub rows-limit : MAX_ROWS ≡ max_rows
rows-limit = refl

pub bytes-limit : MAX_BYTES ≡ max_bytes
bytes-limit = refl
