-- The list that is built: its rows stand in two runs, and its text is what the program shows.
use Rattle.std.proofs.Common.{◌≡◌, refl, sym, ap, ap₂, ◌∙◌, true, ℕ, ◌≤◌, List, [], ◌∷◌, length, take, Result, Ok, arith}
use Rattle.std.proofs.lemmas.List.{length-map, length-take}
use Rattle.std.proofs.lemmas.Bool.Decides.{nat_tests}
use Rattle.rules.specs.declared.Row.{Row}
use Rattle.rules.specs.declared.Refusal.{Refusal}
use Rattle.rules.specs.Words.{natural}
use Rattle.rules.specs.Sheets.{satisfies}
use Rattle.rules.specs.Method.{max_rows, list_of}
use Rattle.rules.specs.Answers.{Verdict, given, refusal_reply, list_reply, write_reply, reply_of, after}
use Rattle.rules.specs.Calls.{Read, rows_in, whole, lent, write, list_values, cares, values, first}
use Rattle.rules.specs.Pla.{text_of}
use Rattle.rules.specs.Program.{shown, list_output}
use Rattle.rules.proofs.PlaText.{text-most}
use Rattle.rules.proofs.Judged.{given-first}
use Rattle.rules.proofs.Refusals.{Accepted, whole-judges, whole-accepted}
use Rattle.rules.proofs.Listed.{accepted-inputs, accepted-right}
use Rattle.given.specs.Given.{in_form}
use Rattle.given.proofs.Runs.{rows_in-cut}
use Rattle.pla.proofs.Verdict.{written}
use Rattle.printing.specs.Printed.{max_printed}
use Rattle.printing.specs.Results.{Prints, line_over}
use Rattle.printing.proofs.Verdicts.{result-given, refusal-refused, text-answer}

-- the words of rows hold those rows
rows_of-words : (rows : List Row) → rows_in (cares rows) (values rows) ≡ rows
unfolding rows_in
rows_of-words [] = refl
rows_of-words (r ∷ rows) = ap (λ l. r ∷ l) (rows_of-words rows)

abbrev pub built : ℕ → List ℕ → Read → Read → Verdict (List Row)
built n order on off = whole n (lent order) (lent on.numbers) (lent off.numbers) max_rows

module _ (n : ℕ) (order : List ℕ) (in_order : order ≡ natural n) (on off : Read) where
  pub list-refused : (f : Refusal) → refusal_reply f ≡ reply_of list_values (built n order on off) → line_over n f ≡ list_output n on off
  unfolding list_output
  list-refused f says = rw (← in_order) (sym (ap (λ v. shown n v (text_of n)) (refusal-refused (built n order on off) list_values f says)))

  module _ (care value care₀ value₀ : List ℕ) (count : ℕ) (says : list_reply (Ok count) ≡ reply_of list_values (built n order on off))
      (care_left : care ≡ after cares (built n order on off) care₀) (value_left : value ≡ after values (built n order on off) value₀) where
    abbrev rows : List Row
    rows = list_of order (satisfies on.numbers) (satisfies off.numbers)

    list_given : (built n order on off ≡ given rows) × (count ∷ [] ≡ list_values rows)
    list_given = result-given (built n order on off) list_values (whole-judges n (lent order) (lent on.numbers) (lent off.numbers) max_rows) says

    given_rows : built n order on off ≡ given rows
    given_rows = list_given.0

    counted : count ≡ length rows
    counted = ap first list_given.1

    accepted : Accepted n (lent order) (lent on.numbers) (lent off.numbers) max_rows rows
    accepted = whole-accepted n (lent order) (lent on.numbers) (lent off.numbers) max_rows given_rows

    cells : (take count care ≡ cares rows) × (take count value ≡ values rows)
    cells = (
      rw (care_left, counted, ← length-map {A = Row} {B = ℕ} rows (λ r. r.care)) (given-first cares given_rows care₀).0,
      rw (value_left, counted, ← length-map {A = Row} {B = ℕ} rows (λ r. r.value)) (given-first values given_rows value₀).0,
    )

    same_rows : take count (rows_in care value) ≡ rows
    same_rows = sym (rows_in-cut care value count) ∙ ap₂ rows_in cells.0 cells.1 ∙ rows_of-words rows

    list-shown : list_output n on off ≡ text_of n (take count (rows_in care value))
    unfolding list_output
    list-shown = rw (same_rows, ← in_order, given_rows)

    list-form : in_form n count (rows_in care value) ≡ true
    list-form =
        let within : count ≤ length (rows_in care value) = omega (arith, counted, ap length same_rows, length-take count (rows_in care value)) in
        let few : count ≤ max_rows = omega (arith, counted, accepted.fits) in
        rw (same_rows, (accepted-right n _ _ _ max_rows rows given_rows).are-rows) (grind (arith, nat_tests))

    list-written : {room : ℕ} → max_printed ≤ room → write n count (rows_in care value) room ≡ given (list_output n on off)
    list-written {room} l =
        let inputs = (accepted-inputs n _ _ _ max_rows rows given_rows).1 in
        let few : length (take count (rows_in care value)) ≤ max_rows = rw same_rows accepted.fits in
        let most = text-most n (take count (rows_in care value)) inputs few in
        written n count (rows_in care value) room accepted.inputs list-form (omega arith) ∙ ap given (sym list-shown)

    -- so its text is written
    pub list-printed : (answer : Result ℕ Refusal) (old new : List ℕ) → max_printed ≤ length old
        → write_reply answer ≡ reply_of (λ t. length t ∷ []) (write n count (rows_in care value) (length old))
        → new ≡ after (λ t. t) (write n count (rows_in care value) (length old)) old → Prints (line_over n) (list_output n on off) old answer new
    list-printed answer old new l says left = rw (text-answer answer (list-written l) says) (refl, rw (list-written l) at left)
