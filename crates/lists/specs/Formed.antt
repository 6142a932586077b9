-- Whether a list call's input is in form, or which refusal it meets first.
use Rattle.std.specs.Prelude.{◌≡◌, true, List, ℕ, ℤ, Result, Ok, Err}
use Rattle.rules.specs.declared.Inputs.{Inputs}
use Rattle.rules.specs.declared.Refusal.{Refusal}
use Rattle.rules.specs.Words.{is_order}
use Rattle.rules.specs.Sheets.{well_formed}
use Rattle.rules.specs.Answers.{Verdict, given, refused, judge, refusal_reply}
use Rattle.rules.specs.Calls.{lent, form}

-- The number of inputs, unless a refusal applies that looks at the form.
unfoldable pub form_of : ℕ → List ℕ → List ℤ → List ℤ → Verdict ℕ
form_of n order on off = judge (form n (lent order) (lent on) (lent off)) n

abbrev pub formed_as : Result Inputs Refusal → Verdict ℕ
formed_as (Ok inputs) = given inputs.count
formed_as (Err f) = refused (refusal_reply f)

-- What is known of an input in form.
pub record InForm (n : ℕ) (order : List ℕ) (on off : List ℤ) : Type 0 where
  pub ordered : is_order n order ≡ true
  pub on_sheet : well_formed n on ≡ true
  pub off_sheet : well_formed n off ≡ true
