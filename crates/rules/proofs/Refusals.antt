-- Every call judges the refusals that it has, in the order of their numbers; and what holds where it refuses nothing.
use mathlib.Core.Path.{◌≡◌, refl, sym, ◌∙◌, ap, subst}
use mathlib.Core.Bool.{true, false, not, ◌&&◌}
use mathlib.Core.List.{List, [], ◌∷◌}
use mathlib.Core.Logic.{◌↔◌}
use mathlib.Core.Option.{Option, none, some, get_or}
use Prim.Native.Nat.{ℕ, ◌≤◌, min}
use lib.Dec.{eqb, ltb}
use lib.IntN.{ℤ}
use lib.ListN.{length, take}
use borrow.Author.Tests.{ltb-false}
use Rattle.rules.specs.declared.Row.{Row}
use Rattle.rules.specs.Words.{is_inputs, is_order, dashes, in_some, natural}
use Rattle.rules.specs.Sheets.{max_numbers, well_formed, satisfies, clauses, ends_closed}
use Rattle.rules.specs.Search.{smallest, found, not_below}
use Rattle.rules.specs.Method.{max_rows, generated, complete, list_of, marks, all}
use Rattle.rules.specs.Answers.{Reply, Check, check, Verdict, given, refused, judge}
use Rattle.rules.specs.Dimacs.{max_bytes, Header, header, numbers, tokens}
use Rattle.rules.specs.Pla.{text_of}
use Rattle.rules.specs.Calls.{Run, Partial, Read, collision, whole_for, whole, partial_for, partial, query, prune, value, write, read}
use Rattle.rules.specs.Calls.{refusal1, refusal2, refusal3, refusal4, refusal6, refusal7, refusal8, refusal9, refusal15, not_well_formed}
use Rattle.rules.proofs.Logic.{clash}
use Rattle.std.proofs.lemmas.Bool.{and_parts, not-false}
use Rattle.rules.proofs.Judged.{NoneApply, Lowest, ascending, judge-given, lowest}

-- The verdict judges these checks, whose numbers ascend, and then gives this result.
pub record Judges {A : Type 0} (verdict : Verdict A) (checks : List Check) (result : A) : Type 0 where
  pub judged : verdict ≡ judge checks result
  pub ascends : ascending checks ≡ true

-- Refused is the lowest number that applies; given is the result, and nothing applies.
pub refused-lowest : {A : Type 0} {v : Verdict A} {cs : List Check} {a : A} {r : Reply} → Judges v cs a → (v ≡ refused r) ↔ Lowest cs r
refused-lowest {cs} {a} j = (λ h. (lowest a cs j.ascends).0 (sym j.judged ∙ h), λ l. j.judged ∙ (lowest a cs j.ascends).1 l)

pub given-none : {A : Type 0} {v : Verdict A} {cs : List Check} {a b : A} → Judges v cs a → v ≡ given b → (a ≡ b) × NoneApply cs
given-none {cs} {a} j h = judge-given a cs (sym j.judged ∙ h)

-- Whole list: 1, 2, 3, 4, 6, 7, 15.
abbrev pub whole_checks : ℕ → Run ℕ → Run ℤ → Run ℤ → ℕ → List Check
whole_checks n order on off room =
    refusal1 n ∷ refusal2 n order ∷ refusal3 n on ∷ refusal4 n off
    ∷ refusal6 order.items (satisfies on.items) (satisfies off.items)
    ∷ refusal7 order.items (satisfies on.items) (satisfies off.items)
    ∷ refusal15 (length (list_of order.items (satisfies on.items) (satisfies off.items))) room
    ∷ []

pub whole-judges : (n : ℕ) (order : Run ℕ) (on off : Run ℤ) (room : ℕ)
    → Judges (whole n order on off room) (whole_checks n order on off room) (list_of order.items (satisfies on.items) (satisfies off.items))
unfolding whole_for whole
whole-judges n order on off room = record { judged = refl; ascends = refl }

-- Partial list: 1 to 6 and 15.
abbrev pub partial_checks : ℕ → Run ℕ → Run ℤ → Run ℤ → ℕ → ℕ → List Check
partial_checks n order on off k room =
    refusal1 n ∷ refusal2 n order ∷ refusal3 n on ∷ refusal4 n off ∷ check 5 (ltb max_rows k)
    ∷ refusal6 order.items (satisfies on.items) (satisfies off.items)
    ∷ refusal15 (length (generated order.items (satisfies on.items) (satisfies off.items) k)) room
    ∷ []

abbrev pub partial_result : Run ℕ → Run ℤ → Run ℤ → ℕ → Partial
partial_result order on off k =
    let rows = generated order.items (satisfies on.items) (satisfies off.items) k in
    record { rows = rows; is_all = complete order.items (satisfies on.items) rows }

pub partial-judges : (n : ℕ) (order : Run ℕ) (on off : Run ℤ) (k room : ℕ)
    → Judges (partial n order on off k room) (partial_checks n order on off k room) (partial_result order on off k)
unfolding partial_for partial
partial-judges n order on off k room = record { judged = refl; ascends = refl }

-- Smallest-setting query: 1, 2, 3, 9.
abbrev pub query_checks : ℕ → Run ℕ → Run ℤ → ℕ → List Check
query_checks n order sheet start = refusal1 n ∷ refusal2 n order ∷ refusal3 n sheet ∷ refusal9 n start ∷ []

pub query-judges : (n : ℕ) (order : Run ℕ) (sheet : Run ℤ) (start : ℕ)
    → Judges (query n order sheet start) (query_checks n order sheet start) (smallest (not_below order.items start (satisfies sheet.items)) order.items dashes)
unfolding query
query-judges n order sheet start = record { judged = refl; ascends = refl }

-- Pruning: 1, 8.
abbrev pub prune_checks : ℕ → ℕ → List Row → List Check
prune_checks n count rows = refusal1 n ∷ refusal8 n count rows ∷ []

pub prune-judges : (n count : ℕ) (rows : List Row) → Judges (prune n count rows) (prune_checks n count rows) (marks all (natural n) (take count rows))
unfolding prune
prune-judges n count rows = record { judged = refl; ascends = refl }

-- Value at a setting: 1, 8, 9.
abbrev pub value_checks : ℕ → ℕ → List Row → ℕ → List Check
value_checks n count rows s = refusal1 n ∷ refusal8 n count rows ∷ refusal9 n s ∷ []

pub value-judges : (n count : ℕ) (rows : List Row) (s : ℕ) → Judges (value n count rows s) (value_checks n count rows s) (in_some (take count rows) s)
unfolding value
value-judges n count rows s = record { judged = refl; ascends = refl }

-- PLA writer: 1, 8, 15.
abbrev pub write_checks : ℕ → ℕ → List Row → ℕ → List Check
write_checks n count rows room = refusal1 n ∷ refusal8 n count rows ∷ refusal15 (length (text_of n (take count rows))) room ∷ []

pub write-judges : (n count : ℕ) (rows : List Row) (room : ℕ) → Judges (write n count rows room) (write_checks n count rows room) (text_of n (take count rows))
unfolding write
write-judges n count rows room = record { judged = refl; ascends = refl }

-- DIMACS reader: 10 to 13, 15.
abbrev pub header_of : List ℕ → Header
header_of text = get_or (header text) (record { inputs = 0; clauses = 0; body = [] })

abbrev pub body_of : List ℕ → Option (List ℤ)
body_of text = numbers (header_of text).inputs (tokens (header_of text).body)

abbrev pub read_result : List ℕ → Read
read_result text = record { inputs = (header_of text).inputs; numbers = get_or (body_of text) [] }

abbrev pub read_checks : List ℕ → ℕ → List Check
read_checks text room =
    check 10 (ltb max_bytes (length text))
    ∷ check 11 (not (found (header text)))
    ∷ check 12 (not (found (body_of text)))
    ∷ check 13 (not (eqb (clauses (read_result text).numbers) (header_of text).clauses && ends_closed true (read_result text).numbers))
    ∷ refusal15 (length (read_result text).numbers) (min room max_numbers)
    ∷ []

pub read-judges : (text : List ℕ) (room : ℕ) → Judges (read text room) (read_checks text room) (read_result text)
unfolding read
read-judges text room = record { judged = refl; ascends = refl }

-- What holds of an accepted sheet, and of an accepted order.
well-formed : (n : ℕ) (sheet : Run ℤ) → not_well_formed n sheet ≡ false → well_formed n sheet.items ≡ true
well-formed n sheet h = (and_parts sheet.is_whole (well_formed n sheet.items) (not-false _ h)).1

an-order : (n : ℕ) (order : Run ℕ) → (refusal2 n order).applies ≡ false → is_order n order.items ≡ true
an-order n order h = (and_parts order.is_whole (is_order n order.items) (not-false _ h)).1

not_found : (o : Option ℕ) → found o ≡ false → o ≡ none
not_found none h = refl
not_found (some s) h = clash refl h

-- What holds where a whole list is given: o is the order, p the on sheet and q the off sheet.
pub record Accepted (n : ℕ) (o : Run ℕ) (p q : Run ℤ) (room : ℕ) (result : List Row) : Type 0 where
  pub inputs : is_inputs n ≡ true
  pub order : is_order n o.items ≡ true
  pub on : well_formed n p.items ≡ true
  pub off : well_formed n q.items ≡ true
  pub apart : collision o.items (satisfies p.items) (satisfies q.items) ≡ none
  pub complete : complete o.items (satisfies p.items) (generated o.items (satisfies p.items) (satisfies q.items) max_rows) ≡ true
  pub fits : length result ≤ room
  pub rows : list_of o.items (satisfies p.items) (satisfies q.items) ≡ result

pub whole-accepted : (n : ℕ) (order : Run ℕ) (on off : Run ℤ) (room : ℕ) {rows : List Row} → whole n order on off room ≡ given rows → Accepted n order on off room rows
whole-accepted n order on off room h =
    let (e, (a1, (a2, (a3, (a4, (a6, (a7, (a15, end)))))))) = given-none (whole-judges n order on off room) h in
    record {
      inputs = not-false (is_inputs n) a1;
      order = an-order n order a2;
      on = well-formed n on a3;
      off = well-formed n off a4;
      apart = not_found _ a6;
      complete = not-false _ a7;
      fits = subst (λ l. length l ≤ room) e (ltb-false room _ a15);
      rows = e;
    }

-- What holds where a partial list of k rows is given.
pub record PartialAccepted (n : ℕ) (o : Run ℕ) (p q : Run ℤ) (k room : ℕ) (result : Partial) : Type 0 where
  pub inputs : is_inputs n ≡ true
  pub order : is_order n o.items ≡ true
  pub on : well_formed n p.items ≡ true
  pub off : well_formed n q.items ≡ true
  pub asked : k ≤ max_rows
  pub apart : collision o.items (satisfies p.items) (satisfies q.items) ≡ none
  pub fits : length result.rows ≤ room
  pub rows : generated o.items (satisfies p.items) (satisfies q.items) k ≡ result.rows
  pub is_all : complete o.items (satisfies p.items) result.rows ≡ result.is_all

pub partial-accepted : (n : ℕ) (order : Run ℕ) (on off : Run ℤ) (k room : ℕ) {part : Partial} → partial n order on off k room ≡ given part
    → PartialAccepted n order on off k room part
partial-accepted n order on off k room h =
    let (e, (a1, (a2, (a3, (a4, (a5, (a6, (a15, end)))))))) = given-none (partial-judges n order on off k room) h in
    record {
      inputs = not-false (is_inputs n) a1;
      order = an-order n order a2;
      on = well-formed n on a3;
      off = well-formed n off a4;
      asked = ltb-false max_rows k a5;
      apart = not_found _ a6;
      fits = subst (λ p. length p.rows ≤ room) e (ltb-false room _ a15);
      rows = ap (λ p. p.rows) e;
      is_all = subst (λ p. complete order.items (satisfies on.items) p.rows ≡ p.is_all) e refl;
    }
