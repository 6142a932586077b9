-- A reply determines its answer: two answers with the same number and values are equal.
use mathlib.Core.Path.{◌≡◌, refl, sym, ◌∙◌, ap}
use mathlib.Core.Bool.{true, false, cond}
use mathlib.Core.List.{List, [], ◌∷◌}
use Prim.Native.Nat.{ℕ}
use lib.Dec.{eqb}
use Rattle.rules.specs.Answers.{Reply, refusal_reply, count_reply, list_reply, partial_reply, query_reply, prune_reply, value_reply, read_reply, write_reply}
use Rattle.rules.specs.Calls.{first}
use Rattle.rules.specs.declared.Refusal.{Refusal}
use Rattle.rules.specs.declared.Refusal.TheVariants.{Inputs, Order, OnSheet, OffSheet, Asked, Collision, TooManyRows, GivenList, GivenSetting, LongText, Header, Token, Clauses, OtherInputs, Room}
use Rattle.rules.specs.declared.Setting.{Setting}
use Rattle.std.specs.Prelude.{Bool, Result, Ok, Err, Option, Some, None}

-- What can be read back from its reply is determined by it.
sole : {A : Type 0} (reply : A → Reply) (back : Reply → A) → ((a : A) → back (reply a) ≡ a) → (a b : A) → reply a ≡ reply b → a ≡ b
sole reply back e a b h = sym (e a) ∙ ap back h ∙ e b

-- The refusal of a number and a first value.
abbrev numbered : ℕ → ℕ → Refusal
numbered k v =
    cond (eqb k 1) Inputs
    (cond (eqb k 2) Order
    (cond (eqb k 3) OnSheet
    (cond (eqb k 4) OffSheet
    (cond (eqb k 5) Asked
    (cond (eqb k 6) (Collision (record { 0 = v }))
    (cond (eqb k 7) TooManyRows
    (cond (eqb k 8) GivenList
    (cond (eqb k 9) GivenSetting
    (cond (eqb k 10) LongText
    (cond (eqb k 11) Header
    (cond (eqb k 12) Token
    (cond (eqb k 13) Clauses
    (cond (eqb k 14) OtherInputs Room)))))))))))))

abbrev refusal_of : Reply → Refusal
refusal_of r = numbered r.number (first r.values)

-- A refusal is read back from its reply, and its number is not 0.
refusal-back : (f : Refusal) → (refusal_of (refusal_reply f) ≡ f) × (eqb (refusal_reply f).number 0 ≡ false)
refusal-back Inputs = (refl, refl)
refusal-back Order = (refl, refl)
refusal-back OnSheet = (refl, refl)
refusal-back OffSheet = (refl, refl)
refusal-back Asked = (refl, refl)
refusal-back (Collision s) = (refl, refl)
refusal-back TooManyRows = (refl, refl)
refusal-back GivenList = (refl, refl)
refusal-back GivenSetting = (refl, refl)
refusal-back LongText = (refl, refl)
refusal-back Header = (refl, refl)
refusal-back Token = (refl, refl)
refusal-back Clauses = (refl, refl)
refusal-back OtherInputs = (refl, refl)
refusal-back Room = (refl, refl)

pub refusal-sole : (a b : Refusal) → refusal_reply a ≡ refusal_reply b → a ≡ b
refusal-sole = sole refusal_reply refusal_of (λ f. (refusal-back f).0)

-- An answer by number: 0 is a result, read back from its values, and any other a refusal.
abbrev answer_of : {A : Type 0} → (List ℕ → A) → Reply → Result A Refusal
answer_of result r = cond (eqb r.number 0) (Ok (result r.values)) (Err (refusal_of r))

refused-back : {A : Type 0} (result : List ℕ → A) (f : Refusal) → answer_of result (refusal_reply f) ≡ Err f
refused-back result f = rw ((refusal-back f).1, (refusal-back f).0)

abbrev second : List ℕ → ℕ
second [] = 0
second (v ∷ vs) = first vs

-- A count: of the rows, of those that stay, or of a text's bytes.
count-back : (a : Result ℕ Refusal) → answer_of first (count_reply a) ≡ a
count-back (Ok count) = refl
count-back (Err f) = refused-back first f

pub count-sole : (a b : Result ℕ Refusal) → count_reply a ≡ count_reply b → a ≡ b
count-sole = sole count_reply (answer_of first) count-back

pub list-sole : (a b : Result ℕ Refusal) → list_reply a ≡ list_reply b → a ≡ b
list-sole = count-sole

pub prune-sole : (a b : Result ℕ Refusal) → prune_reply a ≡ prune_reply b → a ≡ b
prune-sole = count-sole

pub write-sole : (a b : Result ℕ Refusal) → write_reply a ≡ write_reply b → a ≡ b
write-sole = count-sole

-- The count of the rows, and whether they are all.
abbrev partial_from : List ℕ → ℕ × Bool
partial_from vs = (first vs, eqb (second vs) 1)

partial-back : (a : Result (ℕ × Bool) Refusal) → answer_of partial_from (partial_reply a) ≡ a
partial-back (Ok (count, true)) = refl
partial-back (Ok (count, false)) = refl
partial-back (Err f) = refused-back partial_from f

pub partial-sole : (a b : Result (ℕ × Bool) Refusal) → partial_reply a ≡ partial_reply b → a ≡ b
partial-sole = sole partial_reply (answer_of partial_from) partial-back

-- The setting, or none.
abbrev query_from : List ℕ → Option Setting
query_from [] = None
query_from (s ∷ vs) = Some (record { 0 = s })

query-back : (a : Result (Option Setting) Refusal) → answer_of query_from (query_reply a) ≡ a
query-back (Ok (Some s)) = refl
query-back (Ok None) = refl
query-back (Err f) = refused-back query_from f

pub query-sole : (a b : Result (Option Setting) Refusal) → query_reply a ≡ query_reply b → a ≡ b
query-sole = sole query_reply (answer_of query_from) query-back

-- The value.
abbrev value_from : List ℕ → Bool
value_from vs = eqb (first vs) 1

value-back : (a : Result Bool Refusal) → answer_of value_from (value_reply a) ≡ a
value-back (Ok true) = refl
value-back (Ok false) = refl
value-back (Err f) = refused-back value_from f

pub value-sole : (a b : Result Bool Refusal) → value_reply a ≡ value_reply b → a ≡ b
value-sole = sole value_reply (answer_of value_from) value-back

-- The inputs, and the count of the numbers.
abbrev read_from : List ℕ → ℕ × ℕ
read_from vs = (first vs, second vs)

read_back : (a : Result (ℕ × ℕ) Refusal) → answer_of read_from (read_reply a) ≡ a
read_back (Ok (inputs, count)) = refl
read_back (Err f) = refused-back read_from f

pub read-sole : (a b : Result (ℕ × ℕ) Refusal) → read_reply a ≡ read_reply b → a ≡ b
read-sole = sole read_reply (answer_of read_from) read_back
