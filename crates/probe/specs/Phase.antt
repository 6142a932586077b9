-- The search phase by itself: the settings that a sheet asks for, found one after another.
use Rattle.std.specs.Prelude.{Bool, cond, ◌&&◌, List, [], ◌∷◌, ◌++◌, ℕ, ◌-◌, ◌*◌, ◌/◌, leb, ℤ, length}
use Rattle.rules.specs.declared.Row.{Row}
use Rattle.rules.specs.Words.{is_inputs, is_order}
use Rattle.rules.specs.Sheets.{max_clauses, well_formed, satisfies}
use Rattle.rules.specs.Method.{generated, all}
use Rattle.rules.specs.Answers.{over}
use Rattle.rules.specs.Calls.{none_left_over}
use Rattle.sheets.specs.Numbers.{numbers_of}

-- How rows are kept in a run of words: care, value, care, value.
unfoldable pub pairs_of : List Row → List ℕ
pairs_of [] = []
pairs_of (r ∷ rows) = r.care ∷ r.value ∷ pairs_of rows

-- The first k settings, each as a row that the next must avoid: generation where every setting is off, so that no literal goes.
abbrev pub settings : List ℕ → List ℤ → ℕ → List Row
settings order sheet k = generated order (satisfies sheet) all k

-- The input is in form: words, with room for the rows that any sheet bars; and bytes.
abbrev pub rows_form : ℕ → List ℕ → List ℤ → ℕ → Bool
rows_form n order sheet words = is_inputs n && (is_order n order && (well_formed n sheet && leb (2 * max_clauses) words))

abbrev pub bytes_form : ℕ → List ℕ → List ℕ → Bool
bytes_form n order bytes = is_inputs n && (is_order n order && (none_left_over bytes && well_formed n (numbers_of bytes)))

-- What is found behind the first rows, as many as there is room for, and what the run then holds. Without form nothing is found or written.
abbrev pub phase : Bool → List Row → List ℕ → List ℤ → List ℕ → List Row
phase is_formed first order sheet words = cond is_formed (settings order sheet (length words / 2 - length first)) []

abbrev pub phase_words : Bool → List Row → List ℕ → List ℤ → List ℕ → List ℕ
phase_words is_formed first order sheet words = cond is_formed (over (pairs_of (first ++ settings order sheet (length words / 2 - length first))) words) words
