-- What was promised, as theorems about the definitions; above each stands the sentence of the request that it is.
-- An accepted pair is one for which `whole` gives rows. `satisfies on.items` are its on settings.
use mathlib.Core.Path.{◌≡◌, refl, sym, ap, ◌∙◌, subst}
use mathlib.Core.Bool.{Bool, true, false, ◌&&◌, ◌||◌}
use mathlib.Core.List.{List, [], ◌∷◌, ◌++◌}
use mathlib.Core.Logic.{◌⊎◌, inl, inr, ◌↔◌}
use mathlib.Core.Option.{none, some}
use Prim.Native.Nat.{ℕ, ◌+◌, ◌^◌, ◌<◌, ◌≤◌}
use lib.IntN.{ℤ}
use lib.ListN.{length, take, drop}
use Rattle.rules.specs.declared.Row.{Row}
use Rattle.rules.specs.Words.{holds, is_row, fixes, dashes, without, smaller, in_some}
use Rattle.rules.specs.Sheets.{satisfies}
use Rattle.rules.specs.Search.{smallest}
use Rattle.rules.specs.Method.{max_rows, next, generated, pruned, all}
use Rattle.rules.specs.Answers.{Reply, Verdict, given, refused, after}
use Rattle.rules.specs.Pla.{text_of, read_at, read_count, rows_read}
use Rattle.rules.specs.Calls.{Run, Partial, not_well_formed, collision, form, whole, partial, query, prune, value, write, read, cares, values, marked}
use Rattle.rules.proofs.Rows.{dashes-row}
use Rattle.rules.proofs.Orders.{IsOrder}
use Rattle.rules.proofs.Smallest.{smallest-passes, smallest-held, smallest-below, smallest-none, smallest-least}
use Rattle.rules.proofs.Widening.{Meets}
use Rattle.rules.proofs.Generation.{All, Prime, Fresh, generated-fresh, begins}
use Rattle.rules.proofs.Counting.{passing, complete-within}
use Rattle.rules.proofs.Pruning.{Alone, AllAlone, pruned-holds}
use Rattle.rules.proofs.Turns.{mark_of, kept_of, in-turn}
use Rattle.rules.proofs.Same.{Same, same_whole, same-partial}
use Rattle.rules.proofs.PlaText.{text-reads, text-inputs, text-counts}
use Rattle.rules.proofs.Judged.{NoneApply, Lowest, given-first, refused-leaves}
use Rattle.rules.proofs.Refusals.{PartialAccepted, partial-accepted, refused-lowest, whole_checks, whole-judges, partial_checks, partial-judges, query_checks, query-judges, prune_checks, prune-judges, value_checks, value-judges, write_checks, write-judges, read_checks, read-judges}
use Rattle.rules.proofs.Returned.{only-number, collides, Collide, SmallestBoth, NumberOrSmallest, partial_form, whole-reply, whole-both, whole-6, partial-reply, partial-both, partial-6}
use Rattle.rules.proofs.Listed.{Right, accepted-inputs, accepted-few, accepted-right, decided-value}

-- DEMAND 1. Every sheet, order, text and length gets an answer or one of the numbered refusals.
pub answered-or-refused : {A : Type 0} (v : Verdict A) → ((a : A) × (v ≡ given a)) ⊎ ((r : Reply) × (v ≡ refused r))
answered-or-refused (given a) = inl (a, refl)
answered-or-refused (refused r) = inr (r, refl)

-- Each refusal is given exactly when its condition holds; within one call the lowest number that applies.
pub whole-refuses : (n : ℕ) (order : Run ℕ) (on off : Run ℤ) (room : ℕ) (r : Reply) → (whole n order on off room ≡ refused r) ↔ Lowest (whole_checks n order on off room) r
whole-refuses n order on off room r = refused-lowest (whole-judges n order on off room)

pub partial-refuses : (n : ℕ) (order : Run ℕ) (on off : Run ℤ) (k room : ℕ) (r : Reply) → (partial n order on off k room ≡ refused r) ↔ Lowest (partial_checks n order on off k room) r
partial-refuses n order on off k room r = refused-lowest (partial-judges n order on off k room)

pub query-refuses : (n : ℕ) (order : Run ℕ) (sheet : Run ℤ) (start : ℕ) (r : Reply) → (query n order sheet start ≡ refused r) ↔ Lowest (query_checks n order sheet start) r
query-refuses n order sheet start r = refused-lowest (query-judges n order sheet start)

pub prune-refuses : (n count : ℕ) (rows : List Row) (r : Reply) → (prune n count rows ≡ refused r) ↔ Lowest (prune_checks n count rows) r
prune-refuses n count rows r = refused-lowest (prune-judges n count rows)

pub value-refuses : (n count : ℕ) (rows : List Row) (s : ℕ) (r : Reply) → (value n count rows s ≡ refused r) ↔ Lowest (value_checks n count rows s) r
value-refuses n count rows s r = refused-lowest (value-judges n count rows s)

pub write-refuses : (n count : ℕ) (rows : List Row) (room : ℕ) (r : Reply) → (write n count rows room ≡ refused r) ↔ Lowest (write_checks n count rows room) r
write-refuses n count rows room r = refused-lowest (write-judges n count rows room)

pub read-refuses : (text : List ℕ) (room : ℕ) (r : Reply) → (read text room ≡ refused r) ↔ Lowest (read_checks text room) r
read-refuses text room r = refused-lowest (read-judges text room)

-- A result goes to the first cells, and the cells past it stay as they were.
pub result-lies-first : {A B : Type 0} (cells : A → List B) {v : Verdict A} {a : A} → v ≡ given a → (old : List B)
    → (take (length (cells a)) (after cells v old) ≡ cells a) × (drop (length (cells a)) (after cells v old) ≡ drop (length (cells a)) old)
result-lies-first = given-first

-- A refusal leaves each lent buffer holding what it held.
pub refusal-leaves : {A B : Type 0} (cells : A → List B) (r : Reply) (old : List B) → after cells (refused r) old ≡ old
refusal-leaves cells r old = refl

-- Each in turn: list building's two runs, the reader's, the writer's and the records'.
pub whole-leaves : (n : ℕ) (order : Run ℕ) (on off : Run ℤ) (room : ℕ) {r : Reply} (care value : List ℕ) → whole n order on off room ≡ refused r
    → (after cares (whole n order on off room) care ≡ care) × (after values (whole n order on off room) value ≡ value)
whole-leaves n order on off room care value e = (refused-leaves cares e care, refused-leaves values e value)

pub partial-leaves : (n : ℕ) (order : Run ℕ) (on off : Run ℤ) (k room : ℕ) {r : Reply} (care value : List ℕ) → partial n order on off k room ≡ refused r
    → (after (λ p. cares p.rows) (partial n order on off k room) care ≡ care) × (after (λ p. values p.rows) (partial n order on off k room) value ≡ value)
partial-leaves n order on off k room care value e = (refused-leaves (λ p. cares p.rows) e care, refused-leaves (λ p. values p.rows) e value)

pub read-leaves : (text : List ℕ) (room : ℕ) {r : Reply} (old : List ℤ) → read text room ≡ refused r → after (λ x. x.numbers) (read text room) old ≡ old
read-leaves text room old e = refused-leaves (λ x. x.numbers) e old

pub write-leaves : (n count : ℕ) (rows : List Row) (room : ℕ) {r : Reply} (old : List ℕ) → write n count rows room ≡ refused r → after (λ t. t) (write n count rows room) old ≡ old
write-leaves n count rows room old e = refused-leaves (λ t. t) e old

pub prune-leaves : {A : Type 0} (mark : Bool → A → A) (n count : ℕ) (rows : List Row) {r : Reply} (old : List A) → prune n count rows ≡ refused r
    → marked mark (prune n count rows) old ≡ old
prune-leaves mark n count rows old e = ap (λ v. marked mark v old) e

-- And it returns only its number, plus, for sheets that collide, the smallest setting both ask for.
pub whole-returns : (n : ℕ) (order : Run ℕ) (on off : Run ℤ) (room : ℕ) {r : Reply} → whole n order on off room ≡ refused r → NumberOrSmallest n order on off r
whole-returns = whole-reply

pub partial-returns : (n : ℕ) (order : Run ℕ) (on off : Run ℤ) (k room : ℕ) {r : Reply} → partial n order on off k room ≡ refused r → NumberOrSmallest n order on off r
partial-returns = partial-reply

pub query-returns : (n : ℕ) (order : Run ℕ) (sheet : Run ℤ) (start : ℕ) {r : Reply} → query n order sheet start ≡ refused r → r.values ≡ []
query-returns n order sheet start = only-number (query-judges n order sheet start) refl

pub prune-returns : (n count : ℕ) (rows : List Row) {r : Reply} → prune n count rows ≡ refused r → r.values ≡ []
prune-returns n count rows = only-number (prune-judges n count rows) refl

pub value-returns : (n count : ℕ) (rows : List Row) (s : ℕ) {r : Reply} → value n count rows s ≡ refused r → r.values ≡ []
value-returns n count rows s = only-number (value-judges n count rows s) refl

pub write-returns : (n count : ℕ) (rows : List Row) (room : ℕ) {r : Reply} → write n count rows room ≡ refused r → r.values ≡ []
write-returns n count rows room = only-number (write-judges n count rows room) refl

pub read-returns : (text : List ℕ) (room : ℕ) {r : Reply} → read text room ≡ refused r → r.values ≡ []
read-returns text room = only-number (read-judges text room) refl

-- The smallest setting of a row that passes: it passes, lies in the row, and no other that does is smaller in the order.
pub record Smallest (n : ℕ) (order : List ℕ) (passes : ℕ → Bool) (r : Row) (s : ℕ) : Type 0 where
  pub below : s < 2 ^ n
  pub held : holds r s ≡ true
  pub passed : passes s ≡ true
  pub least : (u : ℕ) → u < 2 ^ n → holds r u ≡ true → passes u ≡ true → smaller order u s ≡ false

module _ (n : ℕ) (order : List ℕ) (o : IsOrder n order) (passes : ℕ → Bool) (r : Row) (w : is_row n r ≡ true) where
  pub smallest-is : (s : ℕ) → smallest passes order r ≡ some s → Smallest n order passes r s
  smallest-is s e = record {
    below = smallest-below n order o passes r w s e;
    held = smallest-held n order o passes r w s e;
    passed = smallest-passes n order o passes r w s e;
    least = smallest-least n order o passes r w s e;
  }

  -- Finding none means that there is none.
  pub none-is-none : smallest passes order r ≡ none → (s : ℕ) → s < 2 ^ n → holds r s ≡ true → passes s ≡ false
  none-is-none = smallest-none n order o passes r w

-- For sheets that collide, the smallest setting both ask for.
pub collision-is-smallest : (n : ℕ) (order : List ℕ) → IsOrder n order → (on off : ℕ → Bool) (s : ℕ) → collision order on off ≡ some s
    → Smallest n order (λ s. on s && off s) dashes s
unfolding collision
collision-is-smallest n order o on off s e = smallest-is n order o (λ s. on s && off s) dashes (dashes-row n) s e

-- Refused 6, exactly if no refusal before it applies and some setting satisfies both sheets; returned is the smallest, `collides s`.
module _ (n : ℕ) (order : Run ℕ) (on off : Run ℤ) where
  pub whole-collides : (room : ℕ) → ((s : ℕ) × (whole n order on off room ≡ refused (collides s))) ↔ (NoneApply (form n order on off) × Collide n order on off)
  whole-collides = whole-both n order on off

  pub whole-collides-at : (room s : ℕ) → (whole n order on off room ≡ refused (collides s)) ↔ (NoneApply (form n order on off) × SmallestBoth n order on off s)
  whole-collides-at = whole-6 n order on off

  pub partial-collides : (k room : ℕ) → ((s : ℕ) × (partial n order on off k room ≡ refused (collides s))) ↔ (NoneApply (partial_form n order on off k) × Collide n order on off)
  partial-collides = partial-both n order on off

  pub partial-collides-at : (k room s : ℕ) → (partial n order on off k room ≡ refused (collides s)) ↔ (NoneApply (partial_form n order on off k) × SmallestBoth n order on off s)
  partial-collides-at = partial-6 n order on off

-- DEMAND 2, for an accepted pair.
module _ (n : ℕ) (order : Run ℕ) (on off : Run ℤ) (room : ℕ) (rows : List Row) (accepted : whole n order on off room ≡ given rows) where
  right : Right n (satisfies on.items) (satisfies off.items) rows
  right = accepted-right n order on off room rows accepted

  -- Every on setting lies in some row.
  pub every-on-setting-held : (s : ℕ) → s < 2 ^ n → satisfies on.items s ≡ true → in_some rows s ≡ true
  every-on-setting-held = right.on-held

  -- No off setting in any.
  pub no-off-setting-held : (s : ℕ) → s < 2 ^ n → satisfies off.items s ≡ true → in_some rows s ≡ false
  no-off-setting-held = right.off-missed

  -- No row can lose a literal: without it the row would hold an off setting.
  pub no-literal-can-go : All (λ r. (v : ℕ) → fixes r v ≡ true → Meets n (satisfies off.items) (without v r)) rows
  no-literal-can-go = each rows right.primes
    where
      each : (rows : List Row) → All (Prime n (satisfies off.items)) rows → All (λ r. (v : ℕ) → fixes r v ≡ true → Meets n (satisfies off.items) (without v r)) rows
      each [] p = tt
      each (r ∷ rows) p = (p.0.tight, each rows p.1)

  -- None can be left out without losing a setting: each holds one that no other row holds.
  pub no-row-can-go : AllAlone n all [] rows
  no-row-can-go = right.alone

  -- DEMAND 3. The list's written text, read row by row, gives the list's value,
  pub text-reads-as-list : (s : ℕ) → s < 2 ^ n → read_at (text_of n rows) s ≡ in_some rows s
  text-reads-as-list s l = text-reads n rows (accepted-inputs n order on off room rows accepted).0 right.are-rows s l

  -- 1 on each on setting,
  pub text-reads-on : (s : ℕ) → s < 2 ^ n → satisfies on.items s ≡ true → read_at (text_of n rows) s ≡ true
  text-reads-on s l h = text-reads-as-list s l ∙ every-on-setting-held s l h

  -- 0 on each off setting.
  pub text-reads-off : (s : ℕ) → s < 2 ^ n → satisfies off.items s ≡ true → read_at (text_of n rows) s ≡ false
  text-reads-off s l h = text-reads-as-list s l ∙ no-off-setting-held s l h

  -- The `.p` line: the number that is read from it is that of the lines which are rows, and the list's length.
  pub count-is-read : (read_count (text_of n rows) ≡ some (rows_read (text_of n rows))) × (rows_read (text_of n rows) ≡ length rows)
  count-is-read = text-counts n rows (accepted-inputs n order on off room rows accepted).0 (accepted-few n order on off room rows accepted)

-- So it is of the text of every list that may be given.
pub given-count-is-read : (n : ℕ) (rows : List Row) → 1 ≤ n → length rows ≤ max_rows → (read_count (text_of n rows) ≡ some (rows_read (text_of n rows))) × (rows_read (text_of n rows) ≡ length rows)
given-count-is-read = text-counts

-- Generation: each step brings in at least one on setting not held before; it is complete within as many steps as there are on settings;
-- the first j rows are the beginning of the first k. Pruning loses no setting.
module _ (n : ℕ) (order : List ℕ) (o : IsOrder n order) (on off : ℕ → Bool) where
  pub each-step-brings-one : (k : ℕ) → Fresh n on [] (generated order on off k)
  each-step-brings-one = generated-fresh n order o on off

  pub complete-in-time : next order on (generated order on off (passing (2 ^ n) on)) ≡ none
  complete-in-time = complete-within n order o on off

  pub first-rows-begin : (j d : ℕ) → (more : List Row) × (generated order on off (d + j) ≡ generated order on off j ++ more)
  first-rows-begin = begins order on off

  pub pruning-loses-none : (rows : List Row) → All (λ r. is_row n r ≡ true) rows → (s : ℕ) → s < 2 ^ n → in_some (pruned all order rows) s ≡ in_some rows s
  pruning-loses-none rows w s l = pruned-holds order all n o rows w s l refl

  -- Pruning goes through the rows in order: r is kept exactly if it holds a setting that lies in none of those kept before it and in none behind.
  pub judged-in-turn : (xs : List Row) (r : Row) (ys : List Row) → is_row n r ≡ true → (mark_of all order xs r ys ≡ true) ↔ Alone n all r (kept_of all order xs r ys ++ ys)
  judged-in-turn = in-turn n order o all

-- Asked for k rows: the first k generated rows, in form and held to the room, and whether generation has at most k.
pub first-k-given : (n : ℕ) (order : Run ℕ) (on off : Run ℤ) (k room : ℕ) {part : Partial} → partial n order on off k room ≡ given part
    → PartialAccepted n order on off k room part
first-k-given = partial-accepted

-- Two well-formed pairs with equal inputs, order, room, on settings and off settings give equal rows or the same refusal, however worded.
module _ (n : ℕ) (order : Run ℕ) (on on' off off' : Run ℤ)
    (formed : not_well_formed n on ≡ false) (formed' : not_well_formed n on' ≡ false) (off_formed : not_well_formed n off ≡ false) (off_formed' : not_well_formed n off' ≡ false)
    (same_on : Same n (satisfies on.items) (satisfies on'.items)) (same_off : Same n (satisfies off.items) (satisfies off'.items)) where
  pub wording-is-nothing : (room : ℕ) → whole n order on off room ≡ whole n order on' off' room
  wording-is-nothing room = same_whole n order on on' off off' (formed ∙ sym formed') (off_formed ∙ sym off_formed') same_on same_off room

  pub wording-is-nothing-to-a-part : (k room : ℕ) → partial n order on off k room ≡ partial n order on' off' k room
  wording-is-nothing-to-a-part k room = same-partial n order on on' off off' (formed ∙ sym formed') (off_formed ∙ sym off_formed') same_on same_off k room

-- Where both pairs are accepted and decide every setting, equal bytes occur only with equal on settings.
abbrev pub Decides : ℕ → Run ℤ → Run ℤ → Type 0
Decides n on off = (s : ℕ) → s < 2 ^ n → (satisfies on.items s || satisfies off.items s) ≡ true

pub equal-bytes-equal-settings : (n m : ℕ) (o p : Run ℕ) (on off on' off' : Run ℤ) (room room' : ℕ) (xs ys : List Row)
    → whole n o on off room ≡ given xs → whole m p on' off' room' ≡ given ys → Decides n on off → Decides m on' off' → text_of n xs ≡ text_of m ys
    → (n ≡ m) × Same n (satisfies on.items) (satisfies on'.items)
equal-bytes-equal-settings n m o p on off on' off' room room' xs ys a b d d' e =
    let same : n ≡ m = text-inputs n m xs ys (accepted-inputs n o on off room xs a).1 (accepted-inputs m p on' off' room' ys b).1 e in (
      same,
      λ s l.
          let l' : s < 2 ^ m = subst (λ (k : ℕ). s < 2 ^ k) same l in
          sym (decided-value n _ _ xs (accepted-right n o on off room xs a) d s l)
          ∙ sym (text-reads-as-list n o on off room xs a s l) ∙ ap (λ (t : List ℕ). read_at t s) e ∙ text-reads-as-list m p on' off' room' ys b s l'
          ∙ decided-value m _ _ ys (accepted-right m p on' off' room' ys b) d' s l',
    )
