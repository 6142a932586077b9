-- List building from bytes that are in form: no refusal looks at the form, and the sheets are asked in place.
use mathlib.Core.Path.{◌≡◌, refl, fun_ext}
use mathlib.Core.Bool.{true, ◌&&◌, and-true}
use mathlib.Core.List.{List, []}
use Prim.Native.Nat.{ℕ, ◌/◌, ◌≤◌, min}
use native.Mathlib.Omega.{arith}
use lib.IntN.{ℤ}
use lib.ListN.{length}
use Rattle.rules.specs.Words.{max_inputs, is_inputs, is_order, in_some}
use Rattle.rules.specs.Sheets.{well_formed, satisfies, every_clause}
use Rattle.rules.specs.Answers.{judge}
use Rattle.rules.specs.Calls.{words_of, none_left_over, room_in, whole_for, whole, host_whole, lent}
use Rattle.std.proofs.lemmas.Bool.{and_parts}
use Rattle.rules.proofs.Orders.{is-order}
use Rattle.sheets.specs.Numbers.{numbers_of}
use Rattle.sheets.proofs.Bytes.{words-length}
use Rattle.sheets.proofs.Clauses.{form-reach}
use Rattle.search.specs.Question.{good, Asked, cares_within}

-- a sheet in place asks for the settings that satisfy it
asks-placed : (sheet : List ℤ) → good sheet [] [] ≡ satisfies sheet
unfolding good satisfies every_clause in_some
asks-placed sheet = fun_ext (λ s. and-true (satisfies sheet s))

room-is : (care value : List ℕ) → room_in (words_of care) (words_of value) ≡ min (length care) (length value) / 4
room-is care value = omega (arith, words-length care, words-length value)

module _ (n : ℕ) (order on off : List ℕ) (ordered : (none_left_over order && is_order n (words_of order)) ≡ true)
    (on-formed : (none_left_over on && well_formed n (numbers_of on)) ≡ true) (off-formed : (none_left_over off && well_formed n (numbers_of off)) ≡ true) where
  pub asked : n ≤ max_inputs → Asked (words_of order) (numbers_of on) (numbers_of off) []
  unfolding cares_within
  asked few =
      let o = (and_parts (none_left_over order) (is_order n (words_of order)) ordered).1 in
      let size : length (words_of order) ≡ n = (is-order n (words_of order) o).size in
      record {
        ordered = rw size o;
        size = rw size few;
        reach-a = rw size (form-reach n (numbers_of on) (and_parts (none_left_over on) (well_formed n (numbers_of on)) on-formed).1);
        reach-b = rw size (form-reach n (numbers_of off) (and_parts (none_left_over off) (well_formed n (numbers_of off)) off-formed).1);
        cares = refl;
      }

  pub in-form : is_inputs n ≡ true → (care value : List ℕ)
      → whole_for [] (words_of order) (good (numbers_of on) [] []) (good (numbers_of off) [] []) (min (length care) (length value) / 4) ≡ host_whole n order on off care value
  unfolding whole whole_for judge
  in-form some care value = rw (some, ordered, on-formed, off-formed, asks-placed (numbers_of on), asks-placed (numbers_of off), room-is)

-- Bytes with none left over, whose words and numbers are the ones lent, give the same list as these.
pub same-list : (n : ℕ) (order on off care value os : List ℕ) (ps qs : List ℤ) (room : ℕ) → none_left_over order ≡ true → none_left_over on ≡ true → none_left_over off ≡ true
    → words_of order ≡ os → numbers_of on ≡ ps → numbers_of off ≡ qs → room_in (words_of care) (words_of value) ≡ room
    → host_whole n order on off care value ≡ whole n (lent os) (lent ps) (lent qs) room
same-list n order on off care value os ps qs room a b c e f g h = rw (a, b, c, e, f, g, h)
