-- What is printed: it lies within the run, and it has a byte.
use Rattle.std.proofs.Common.{◌≡◌, not, ℕ, ◌≤◌, ◌<◌, List, [], ◌∷◌, eqb, ltb, length, drop, length-append, arith}
use Rattle.rules.specs.Words.{natural}
use Rattle.rules.specs.Sheets.{max_numbers}
use Rattle.rules.specs.Method.{max_rows}
use Rattle.rules.specs.Answers.{Verdict, given, refused, check, judge}
use Rattle.rules.specs.Calls.{read, whole, lent}
use Rattle.rules.specs.Pla.{text_of}
use Rattle.rules.specs.Program.{shown, list_output, output}
use Rattle.rules.proofs.Logic.{test}
use Rattle.printing.specs.Printed.{max_printed, printed, printed_size}

within : (text old : List ℕ) → printed_size text (length old) ≤ length (printed text old)
unfolding printed printed_size
within text old =
    test (ltb (length old) max_printed) (λ t. rw t (omega arith)) λ f. rw f (omega (arith, length-append text (drop (length text) old)))

pub printed-within : (text old : List ℕ) {new : List ℕ} {size : ℕ} → size ≡ printed_size text (length old) → new ≡ printed text old → size ≤ length new
printed-within text old e f = rw (e, f) (within text old)

-- so a count of 0 says that there was no room
shown-some : {A : Type 0} (n : ℕ) (v : Verdict A) (go_on : A → List ℕ) → ((a : A) → 0 < length (go_on a)) → 0 < length (shown n v go_on)
shown-some n (given a) go_on h = h a
shown-some n (refused r) go_on h = omega arith

pub output-some : (on_text off_text : List ℕ) → 0 < length (output on_text off_text)
unfolding output list_output text_of
output-some on_text off_text =
    shown-some 0 (read on_text max_numbers) _ λ on. shown-some 0 (read off_text max_numbers) _ λ off.
    shown-some 0 (judge (check 14 (not (eqb on.inputs off.inputs)) ∷ []) on.inputs) _ λ n.
    shown-some n (whole n (lent (natural n)) (lent on.numbers) (lent off.numbers) max_rows) _ λ rows. omega arith
