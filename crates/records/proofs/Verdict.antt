-- The verdict on a given list: refusal 1, then 8, else which of its rows stay.
use mathlib.Core.Path.{◌≡◌}
use mathlib.Core.Bool.{Bool, true, false}
use mathlib.Core.List.{List, [], ◌∷◌}
use Prim.Native.Nat.{ℕ}
use lib.ListN.{length, take}
use lib.Seq.{length-take-le}
use borrow.Author.Tests.{leb-true}
use Rattle.std.proofs.lemmas.List.{take-map}
use Rattle.std.proofs.lemmas.List.Folds.{list_all-map}
use Rattle.std.proofs.lemmas.Bool.Decides.{nat_tests}
use Rattle.given.proofs.Runs.{are_rows-all}
use lib.ListN.{length-map}
use Rattle.rules.specs.declared.Row.{Row}
use Rattle.rules.specs.Words.{is_inputs, natural}
use Rattle.rules.specs.Method.{marks, all}
use Rattle.rules.specs.Answers.{refusal, given, refused}
use Rattle.rules.specs.Calls.{refusal1, refusal8, prune}
use Rattle.std.proofs.lemmas.Bool.{and_parts, not_from_false, not_from_true}
use Rattle.rules.proofs.Judged.{judge-first, judge-none}
use Rattle.given.specs.Given.{in_form}
use Rattle.records.proofs.Judged.{pruned-blanks}

module _ (n count : ℕ) (rows : List Row) where
  abbrev stays : List Bool
  stays = marks all (natural n) (take count rows)

  pub refused-inputs : is_inputs n ≡ false → prune n count rows ≡ refused (refusal 1)
  unfolding prune
  refused-inputs a = judge-first stays [] (refusal1 n) _ tt (not_from_false _ a)

  pub refused-list : is_inputs n ≡ true → in_form n count rows ≡ false → prune n count rows ≡ refused (refusal 8)
  unfolding prune
  refused-list a b = judge-first stays (refusal1 n ∷ []) (refusal8 n count rows) [] (not_from_true _ a, tt) (not_from_false _ b)

  pub pruned : is_inputs n ≡ true → in_form n count rows ≡ true → prune n count rows ≡ given stays
  unfolding prune
  pruned a b = judge-none stays (refusal1 n ∷ refusal8 n count rows ∷ []) (not_from_true _ a, (not_from_true _ b, tt))

  -- A list in form has its rows.
  pub first_count : in_form n count rows ≡ true → length (take count rows) ≡ count
  first_count form = length-take-le count rows (leb-true count (length rows) (and_parts _ _ (and_parts _ _ form).0).0)

-- the verdict, and the marks of the rows that were pruned
pub ruleset verdicts = (refused-inputs, refused-list, pruned, take-map, pruned-blanks)

-- when the first records are in form
pub ruleset formed = (are_rows-all, list_all-map, take-map, length-map, nat_tests)
