-- What is read is a well-formed sheet over the inputs that the header names.
use mathlib.Core.Path.{◌≡◌, refl, ◌∙◌, ap, subst}
use mathlib.Core.Bool.{Bool, true, false, not, ◌&&◌}
use mathlib.Core.List.{List, [], ◌∷◌}
use mathlib.Core.Option.{Option, none, some, get_or}
use Prim.Native.Char.{code}
use Prim.Native.Nat.{ℕ, ◌-◌, ◌≤◌, min}
use native.Mathlib.Omega.{arith}
use lib.Dec.{eqb, leb}
use lib.IntN.{ℤ, pos, negsuc}
use lib.ListN.{length}
use borrow.Author.Tests.{leb-true, le-leb, eqb-true, ltb-false}
use Rattle.rules.specs.Words.{max_inputs}
use Rattle.rules.specs.Sheets.{max_numbers, max_clauses, variable, clauses, ends_closed, in_reach, well_formed}
use Rattle.rules.specs.Search.{found}
use Rattle.rules.specs.Answers.{given}
use Rattle.rules.specs.Dimacs.{◌>>=◌, ascii, is_digit, after_comments, after_bytes, after_spaces, after_all, front, header_end, Header, header, Token, number, ends, other, signed, within, decimal, token_of, join_number, tokens, numbers}
use Rattle.rules.specs.Calls.{Read, read}
use Rattle.rules.proofs.Logic.{test, clash}
use Rattle.std.proofs.lemmas.Bool.{and_parts, and_from, not-false}
use Rattle.rules.proofs.Refusals.{given-none, header_of, body_of, read_result, read-judges}

-- What holds of nothing, and of the second step wherever the first one leads, holds of both steps in a row.
both-steps : {A B : Type 0} (P : Option B → Type 0) (o : Option A) (f : A → Option B) → P none → ((a : A) → o ≡ some a → P (f a)) → P (o >>= f)
both-steps P none f n h = n
both-steps P (some a) f n h = h a refl

-- A number that is read within bounds lies between them.
abbrev Between : ℕ → ℕ → Option ℕ → Type 0
Between low high none = Unit {0}
Between low high (some m) = (low ≤ m) × (m ≤ high)

within-between : (low high m : ℕ) → Between low high (within low high m)
within-between low high m =
    test (leb low m && leb m high)
    (λ t. let (l, h) = and_parts (leb low m) (leb m high) t in rw t (leb-true low m l, leb-true m high h))
    λ f. rw f tt

between : (low high : ℕ) (o : Option ℕ) → Between low high (o >>= within low high)
between low high o = both-steps (Between low high) o (within low high) tt λ m e. within-between low high m

bounded : {B : Type 0} (P : Option B → Type 0) (low high : ℕ) (o : Option ℕ) (f : ℕ → Option B) → P none
    → ((m : ℕ) → (low ≤ m) × (m ≤ high) → P (f m)) → P (o >>= within low high >>= f)
bounded P low high o f n h = both-steps P (o >>= within low high) f n λ m e. h m (subst (Between low high) e (between low high o))

-- The header's numbers are within their limits.
abbrev InLimits : Option Header → Type 0
InLimits none = Unit {0}
InLimits (some h) = (1 ≤ h.inputs) × (h.inputs ≤ max_inputs) × (h.clauses ≤ max_clauses)

header-limits : (text : List ℕ) → InLimits (header text)
unfolding header
header-limits text =
    both-steps InLimits (after_comments false text) _ tt λ t e.
    both-steps InLimits (after_bytes (ascii "p") t) _ tt λ t e.
    both-steps InLimits (after_spaces t) _ tt λ t e.
    both-steps InLimits (after_bytes (ascii "cnf") t) _ tt λ t e.
    both-steps InLimits (after_spaces t) _ tt λ t e.
    bounded InLimits 1 max_inputs (decimal (front is_digit t)) _ tt λ v inputs.
    both-steps InLimits (after_spaces (after_all is_digit t)) _ tt λ t e.
    bounded InLimits 0 max_clauses (decimal (front is_digit t)) _ tt λ c clauses.
    both-steps InLimits (header_end (after_all is_digit t)) _ tt λ t e.
    (inputs.0, inputs.1, clauses.1)

-- The number of a token lies in reach.
abbrev pub token_reach : ℕ → Token → Bool
token_reach v (number z) = leb (variable z) v
token_reach v ends = true
token_reach v other = true

signed-reach : (v low : ℕ) (sign : ℕ → ℤ) → ((m : ℕ) → low ≤ m → variable (sign m) ≡ m) → (o : Option ℕ) → Between low v o → token_reach v (signed sign o) ≡ true
signed-reach v low sign same none b = refl
signed-reach v low sign same (some m) b = ap (λ k. leb k v) (same m b.0) ∙ le-leb m v b.1

positive-reach : (v : ℕ) (o : Option ℕ) → token_reach v (signed pos (o >>= within 0 v)) ≡ true
positive-reach v o = signed-reach v 0 pos (λ m l. refl) (o >>= within 0 v) (between 0 v o)

negative-reach : (v : ℕ) (o : Option ℕ) → token_reach v (signed (λ m. negsuc (m - 1)) (o >>= within 1 v)) ≡ true
negative-reach v o = signed-reach v 1 (λ m. negsuc (m - 1)) (λ m l. omega arith) (o >>= within 1 v) (between 1 v o)

pub token-reach : (v : ℕ) (w : List ℕ) → token_reach v (token_of v w) ≡ true
token-reach v [] = refl
token-reach v (b ∷ []) = test (eqb b (code "%")) (λ t. rw t) λ f. rw f (positive-reach v (decimal (b ∷ [])))
token-reach v (b ∷ c ∷ t) =
    test (eqb b (code "-")) (λ y. rw y (negative-reach v (decimal (c ∷ t)))) λ f. rw f (positive-reach v (decimal (b ∷ c ∷ t)))

-- So do the numbers of a body.
abbrev all_reach : ℕ → Option (List ℤ) → Bool
all_reach v none = true
all_reach v (some zs) = in_reach v zs

join-reach : (v : ℕ) (t : Token) (later : Option (List ℤ)) → token_reach v t ≡ true → all_reach v later ≡ true → all_reach v (join_number t later) ≡ true
unfolding in_reach
join-reach v (number z) none h l = refl
join-reach v (number z) (some zs) h l = and_from _ _ h l
join-reach v ends later h l = refl
join-reach v other later h l = refl

numbers-reach : (v : ℕ) (ws : List (List ℕ)) → all_reach v (numbers v ws) ≡ true
unfolding numbers in_reach
numbers-reach v [] = refl
numbers-reach v (w ∷ ws) = join-reach v (token_of v w) (numbers v ws) (token-reach v w) (numbers-reach v ws)

-- What is not missing is there.
present : {A : Type 0} (o : Option A) (d : A) → not (found o) ≡ false → o ≡ some (get_or o d)
present none d m = clash refl m
present (some a) d m = refl

body-reach : (text : List ℕ) → not (found (body_of text)) ≡ false → in_reach (header_of text).inputs (read_result text).numbers ≡ true
body-reach text m =
    let v = (header_of text).inputs in
    subst (λ o. all_reach v o ≡ true) (present (body_of text) [] m) (numbers-reach v (tokens (header_of text).body))

-- What holds of what is read.
pub record InForm (r : Read) (room : ℕ) : Type 0 where
  pub at_least : 1 ≤ r.inputs
  pub at_most : r.inputs ≤ max_inputs
  pub sheet : well_formed r.inputs r.numbers ≡ true
  pub fits : length r.numbers ≤ room

pub read-form : (text : List ℕ) (room : ℕ) {r : Read} → read text room ≡ given r → InForm r room
unfolding well_formed
read-form text room h =
    let (e, (a10, (a11, (a12, (a13, (a15, end)))))) = given-none (read-judges text room) h in
    let zs = (read_result text).numbers in
    let (least, most, few) = subst InLimits (present (header text) _ a11) (header-limits text) in
    let (counted, closed) = and_parts (eqb (clauses zs) (header_of text).clauses) (ends_closed true zs) (not-false _ a13) in
    let same = eqb-true (clauses zs) (header_of text).clauses counted in
    let short : length zs ≤ min room max_numbers = ltb-false (min room max_numbers) (length zs) a15 in
    subst (λ x. InForm x room) e
    (record {
      at_least = least;
      at_most = most;
      sheet = and_from _ _ (le-leb (length zs) max_numbers (omega arith)) (and_from _ _ (le-leb (clauses zs) max_clauses (omega arith)) (and_from _ _ closed (body-reach text a12)));
      fits = omega arith;
    })
