-- The verdict on a list that is to be written: refusal 1, then 8, then 15, else the text.
use Rattle.std.proofs.Common.{◌≡◌, ℕ, ◌≤◌, ◌<◌, true, false, List, [], ◌∷◌, length, take, ltb, arith}
use Rattle.std.proofs.lemmas.Bool.Decides.{nat_tests}
use Rattle.std.proofs.lemmas.List.{length-take-le}
use Rattle.rules.specs.declared.Row.{Row}
use Rattle.rules.specs.Words.{is_inputs}
use Rattle.rules.specs.Answers.{refusal, given, refused, reply_of, judge}
use Rattle.rules.specs.Calls.{write, first}
use Rattle.rules.specs.Pla.{text_of}
use Rattle.rules.proofs.Logic.{test}
use Rattle.rules.proofs.PlaText.{text-most}
use Rattle.given.specs.Given.{in_form}
use Rattle.given.proofs.InForm.{form-count}

module _ (n count : ℕ) (rows : List Row) (room : ℕ) where
  pub refused-inputs : is_inputs n ≡ false → write n count rows room ≡ refused (refusal 1)
  unfolding write judge
  refused-inputs a = rw a

  pub refused-list : is_inputs n ≡ true → in_form n count rows ≡ false → write n count rows room ≡ refused (refusal 8)
  unfolding write judge
  refused-list a b = rw (a, b)

  pub refused-room : is_inputs n ≡ true → in_form n count rows ≡ true → room < length (text_of n (take count rows)) → write n count rows room ≡ refused (refusal 15)
  unfolding write judge
  refused-room a b l = grind (arith, nat_tests)

  pub written : is_inputs n ≡ true → in_form n count rows ≡ true → length (text_of n (take count rows)) ≤ room → write n count rows room ≡ given (text_of n (take count rows))
  unfolding write judge
  written a b l = grind (arith, nat_tests)

  -- a text that is written has at most 6,933 bytes
  text_few : is_inputs n ≡ true → in_form n count rows ≡ true → length (text_of n (take count rows)) ≤ 6933
  text_few a b =
      let (within, few) = form-count n count rows b in
      text-most n (take count rows) (grind (arith, nat_tests)) (rw length-take-le few)

  -- so the length that is answered is at most 6,933
  pub answer-few : first (reply_of (λ t. length t ∷ []) (write n count rows room)).values ≤ 6933
  unfolding write judge
  answer-few =
      test (is_inputs n)
      (λ a. test (in_form n count rows)
      (λ b. test (ltb room (length (text_of n (take count rows))))
      (λ l. rw (a, b, l) (omega arith))
      (λ l. rw (a, b, l) (text_few a b)))
      (λ b. rw (a, b) (omega arith)))
      (λ a. rw a (omega arith))
