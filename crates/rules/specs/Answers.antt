-- What a call answers: this paper's number and values for each case of each answer; and how the refusals of a call are judged.
use mathlib.Core.{Bool.Bool, Bool.cond, List.List, List.[], List.◌∷◌, List.◌++◌}
use Rattle.std.specs.Prelude.{ℕ, length, drop, Result, Ok, Err, Option, Some, None}
use Rattle.rules.specs.{Words.one, declared.Refusal.Refusal, declared.Setting.Setting}

-- number: 0 for a result, else the refusal's. values: those of the result, and for refusal 6 the setting.
pub record Reply : Type 0 where
  pub number : ℕ
  pub values : List ℕ

abbrev pub answered : List ℕ → Reply
answered vs = record { number = 0; values = vs }

abbrev pub refusal : ℕ → Reply
refusal k = record { number = k; values = [] }

abbrev pub refusal_reply : Refusal → Reply
refusal_reply Refusal.Inputs = refusal 1
refusal_reply Refusal.Order = refusal 2
refusal_reply Refusal.OnSheet = refusal 3
refusal_reply Refusal.OffSheet = refusal 4
refusal_reply Refusal.Asked = refusal 5
refusal_reply (Refusal.Collision s) = record { number = 6; values = s.0 ∷ [] }
refusal_reply Refusal.TooManyRows = refusal 7
refusal_reply Refusal.GivenList = refusal 8
refusal_reply Refusal.GivenSetting = refusal 9
refusal_reply Refusal.LongText = refusal 10
refusal_reply Refusal.Header = refusal 11
refusal_reply Refusal.Token = refusal 12
refusal_reply Refusal.Clauses = refusal 13
refusal_reply Refusal.OtherInputs = refusal 14
refusal_reply Refusal.Room = refusal 15

-- An answer is a result or a refusal. The pairs are a count and whether there are no more, and the inputs and a count.
abbrev pub count_reply : Result ℕ Refusal → Reply
count_reply (Ok count) = answered (count ∷ [])
count_reply (Err f) = refusal_reply f

-- The count of a list's rows, of the rows that pruning keeps, and of a text's bytes.
abbrev pub list_reply : Result ℕ Refusal → Reply
list_reply = count_reply

abbrev pub prune_reply : Result ℕ Refusal → Reply
prune_reply = count_reply

abbrev pub write_reply : Result ℕ Refusal → Reply
write_reply = count_reply

abbrev pub partial_reply : Result (ℕ × Bool) Refusal → Reply
partial_reply (Ok (count, complete)) = answered (count ∷ one complete ∷ [])
partial_reply (Err f) = refusal_reply f

abbrev pub query_reply : Result (Option Setting) Refusal → Reply
query_reply (Ok (Some s)) = answered (s.0 ∷ [])
query_reply (Ok None) = answered []
query_reply (Err f) = refusal_reply f

abbrev pub value_reply : Result Bool Refusal → Reply
value_reply (Ok b) = answered (one b ∷ [])
value_reply (Err f) = refusal_reply f

abbrev pub read_reply : Result (ℕ × ℕ) Refusal → Reply
read_reply (Ok (inputs, count)) = answered (inputs ∷ count ∷ [])
read_reply (Err f) = refusal_reply f

-- A refusal, and whether its condition holds.
pub record Check : Type 0 where
  pub applies : Bool
  pub reply : Reply

abbrev pub check : ℕ → Bool → Check
check k applies = record { applies = applies; reply = refusal k }

-- A call's result, or its refusal.
pub data Verdict (A : Type 0) : Type 0 where
  given : A → Verdict A
  refused : Reply → Verdict A

-- The first refusal that applies is given, the result only if none does.
unfoldable pub judge : {A : Type 0} → List Check → A → Verdict A
judge [] a = given a
judge (c ∷ cs) a = let later = judge cs a in cond c.applies (refused c.reply) later

-- The reply, where the result's values are known.
abbrev pub reply_of : {A : Type 0} → (A → List ℕ) → Verdict A → Reply
reply_of values (given a) = answered (values a)
reply_of values (refused r) = r

-- A lent run after the call: the new cells over the first of the old ones. A refusal leaves all as it was.
abbrev pub over : {B : Type 0} → List B → List B → List B
over new old = new ++ drop (length new) old

abbrev pub after : {A B : Type 0} → (A → List B) → Verdict A → List B → List B
after cells (given a) old = over (cells a) old
after cells (refused r) old = old
