-- P1 to P12: what the paper says is what the definitions come to. Three inputs have eight settings, so generation has stopped after eight
-- steps, and only these are computed.
use mathlib.Core.Path.{◌≡◌, refl, ap, ap₂}
use mathlib.Core.Bool.{not}
use mathlib.Core.List.{List, [], ◌∷◌, ◌++◌, map}
use mathlib.Core.Option.{none}
use Prim.Native.Nat.{ℕ}
use lib.Dec.{ltb}
use lib.IntN.{ℤ}
use lib.ListN.{length}
use Rattle.rules.specs.declared.Row.{Row}
use Rattle.rules.specs.Words.{times, each_once, is_order, counting, smaller, in_some}
use Rattle.rules.specs.Sheets.{every_clause, satisfies, clauses, ends_closed, in_reach, well_formed}
use Rattle.rules.specs.Search.{smallest}
use Rattle.rules.specs.Method.{max_rows, next, widen_at, widen, generated, complete, marks_after, picked, pruned, all, list_of}
use Rattle.rules.specs.Answers.{check, Verdict, judge}
use Rattle.rules.specs.Dimacs.{after_comments, after_bytes, after_all, front, digits_from, header, tokens, numbers}
use Rattle.rules.specs.Pla.{digits, setting_chars, row_chars, row_lines, text_of}
use Rattle.rules.specs.Calls.{Run, Partial, lent, form, refusal6, refusal15, collision, whole_for, whole, partial_for, partial, query, read}
use Rattle.rules.specs.Program.{list_output, output}
use Rattle.rules.specs.Cases.{Case, Outcome, list, generates, smallest_from, prints, table, sheet, outcome, computed, stated}
use Rattle.rules.proofs.Generation.{All, stopped}

-- A whole list and a partial one, by the rows that generation gives.
unfoldable whole_by : List Row → ℕ → Run ℕ → Run ℤ → Run ℤ → Verdict (List Row)
whole_by made n order on off =
    let rows = pruned all order.items made in
    let is_on = satisfies on.items in
    judge (form n order on off ++ (refusal6 order.items is_on (satisfies off.items) ∷ check 7 (not (complete order.items is_on made)) ∷ refusal15 (length rows) 256 ∷ [])) rows

unfoldable part_by : List Row → ℕ → Run ℕ → Run ℤ → Run ℤ → Verdict Partial
part_by made n order on off =
    let is_on = satisfies on.items in
    judge ((form n order on off ++ (check 5 (ltb max_rows 256) ∷ [])) ++ (refusal6 order.items is_on (satisfies off.items) ∷ refusal15 (length made) 256 ∷ []))
    (record { rows = made; is_all = complete order.items is_on made })

-- Eight steps of generation; that no setting is left then; and what a case comes to by them.
unfoldable eight : List ℕ → Run ℤ → Run ℤ → List Row
eight order on off = generated order (satisfies on.items) (satisfies off.items) 8

abbrev Stops : Case → Type 0
Stops (list n order on off said) = next order (satisfies (sheet n on).items) (eight order (sheet n on) (sheet n off)) ≡ none
Stops (generates n order on off said) = next order (satisfies (sheet n on).items) (eight order (sheet n on) (sheet n off)) ≡ none
Stops (smallest_from n start on said) = Unit {0}
Stops (prints on off said) = Unit {0}

unfoldable quick : Case → Outcome
quick (list n order on off said) = outcome n (map (row_chars 1 n)) (whole_by (eight order (sheet n on) (sheet n off)) n (lent order) (sheet n on) (sheet n off))
quick (generates n order on off said) =
    outcome n (λ p. map (row_chars 1 n) p.rows) (part_by (eight order (sheet n on) (sheet n off)) n (lent order) (sheet n on) (sheet n off))
quick (smallest_from n start on said) = computed (smallest_from n start on said)
quick (prints on off said) = computed (prints on off said)

same : (c : Case) → Stops c → computed c ≡ quick c
unfolding computed quick whole whole_for list_of whole_by partial partial_for part_by eight
same (list n order on off said) e =
    ap (λ rows. outcome n (map (row_chars 1 n)) (whole_by rows n (lent order) (sheet n on) (sheet n off)))
    (stopped order (satisfies (sheet n on).items) (satisfies (sheet n off).items) 8 248 e)
same (generates n order on off said) e =
    ap (λ rows. outcome n (λ p. map (row_chars 1 n) p.rows) (part_by rows n (lent order) (sheet n on) (sheet n off)))
    (stopped order (satisfies (sheet n on).items) (satisfies (sheet n off).items) 8 248 e)
same (smallest_from n start on said) e = refl
same (prints on off said) e = refl

same-all : (cs : List Case) → All Stops cs → map computed cs ≡ map quick cs
same-all [] h = refl
same-all (c ∷ cs) h = ap₂ (λ (o : Outcome) (os : List Outcome). o ∷ os) (same c h.0) (same-all cs h.1)

stops : All Stops table
unfolding counting in_some every_clause satisfies smallest next widen_at widen generated front tokens numbers digits_from table sheet eight
stops = (refl, (refl, (refl, (refl, (refl, (refl, (refl, (refl, (refl, (refl, (refl, (refl, (tt, (tt, (tt, tt)))))))))))))))

pub table-holds : map computed table ≡ map stated table
unfolding times each_once is_order counting smaller in_some every_clause satisfies clauses ends_closed in_reach well_formed smallest next widen_at widen generated marks_after picked pruned list_of judge after_comments after_bytes after_all front digits_from header tokens numbers digits setting_chars row_chars row_lines text_of collision whole_for whole partial_for partial query read list_output output table sheet outcome computed stated whole_by part_by eight quick
table-holds = same-all table stops
