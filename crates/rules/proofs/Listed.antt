-- What an accepted pair's list is.
use mathlib.Core.Path.{◌≡◌, refl, sym, ap, ◌∙◌, subst}
use mathlib.Core.Bool.{Bool, true, false, ◌&&◌, ◌||◌}
use mathlib.Core.List.{List, [], ◌∷◌}
use mathlib.Core.Option.{none}
use Prim.Native.Nat.{ℕ, ◌^◌, ◌<◌, ◌≤◌}
use native.Mathlib.Omega.{arith}
use lib.Dec.{leb}
use lib.IntN.{ℤ}
use lib.ListN.{length}
use borrow.Author.Tests.{leb-true}
use Rattle.rules.specs.declared.Row.{Row}
use Rattle.rules.specs.Words.{max_inputs, dashes, in_some}
use Rattle.rules.specs.Sheets.{satisfies}
use Rattle.rules.specs.Method.{max_rows, generated, marks, picked, pruned, all, list_of}
use Rattle.rules.specs.Answers.{given}
use Rattle.rules.specs.Calls.{Run, collision, are_rows, whole}
use Rattle.rules.proofs.Logic.{test, clash}
use Rattle.std.proofs.lemmas.Bool.{and_parts, and_from, false_from_ne_true}
use Rattle.rules.proofs.Rows.{dashes-row, dashes-holds}
use Rattle.rules.proofs.Orders.{IsOrder, is-order}
use Rattle.rules.proofs.Smallest.{smallest-none}
use Rattle.rules.proofs.Generation.{All, Prime, size, complete-none, next-none, generated-rows, generated-prime}
use Rattle.rules.proofs.Pruning.{AllAlone, pruned-holds, pruned-alone, pruned-all}
use Rattle.rules.proofs.Refusals.{Accepted, whole-accepted}

pub record Right (n : ℕ) (on off : ℕ → Bool) (rows : List Row) : Type 0 where
  pub are-rows : are_rows n rows ≡ true
  pub on-held : (s : ℕ) → s < 2 ^ n → on s ≡ true → in_some rows s ≡ true
  pub off-missed : (s : ℕ) → s < 2 ^ n → off s ≡ true → in_some rows s ≡ false
  pub primes : All (Prime n off) rows
  pub alone : AllAlone n all [] rows

primes-rows : (n : ℕ) (off : ℕ → Bool) (rows : List Row) → All (Prime n off) rows → are_rows n rows ≡ true
unfolding are_rows
primes-rows n off [] p = refl
primes-rows n off (r ∷ rows) p = and_from _ _ p.0.row (primes-rows n off rows p.1)

primes-miss : (n : ℕ) (off : ℕ → Bool) (rows : List Row) → All (Prime n off) rows → (s : ℕ) → s < 2 ^ n → off s ≡ true → in_some rows s ≡ false
unfolding in_some
primes-miss n off [] p s l f = refl
primes-miss n off (r ∷ rows) p s l f = rw (p.0.misses s l f) (primes-miss n off rows p.1 s l f)

-- Sheets that do not collide ask for no setting both.
pub no-collision : (n : ℕ) (order : List ℕ) (o : IsOrder n order) (on off : ℕ → Bool) → collision order on off ≡ none
    → (s : ℕ) → s < 2 ^ n → on s ≡ true → off s ≡ false
unfolding collision
no-collision n order o on off e s l h =
    false_from_ne_true _ (λ f. clash (and_from _ _ h f) (smallest-none n order o (λ s. on s && off s) dashes (dashes-row n) e s l (dashes-holds s)))

module _ (n : ℕ) (order : Run ℕ) (on off : Run ℤ) (room : ℕ) (rows : List Row) (h : whole n order on off room ≡ given rows) where
  accepted : Accepted n order on off room rows
  accepted = whole-accepted n order on off room h

  pub accepted-order : IsOrder n order.items
  accepted-order = is-order n order.items accepted.order

  pub accepted-inputs : (1 ≤ n) × (n ≤ max_inputs)
  accepted-inputs = let b = and_parts (leb 1 n) (leb n max_inputs) accepted.inputs in (leb-true 1 n b.0, leb-true n max_inputs b.1)

  pub accepted-right : Right n (satisfies on.items) (satisfies off.items) rows
  unfolding list_of
  accepted-right =
      let o = accepted-order in
      let f = satisfies on.items in
      let g = satisfies off.items in
      let apart = no-collision n order.items o f g accepted.apart in
      let all-rows = generated-rows n order.items o f g max_rows in
      let list = pruned all order.items (generated order.items f g max_rows) in
      let primes : All (Prime n g) list = pruned-all order.items all n o (generated order.items f g max_rows) all-rows (Prime n g) (generated-prime n order.items o f g apart max_rows) in
      subst (Right n f g) accepted.rows (record {
        are-rows = primes-rows n g list primes;
        on-held = λ s l k. pruned-holds order.items all n o (generated order.items f g max_rows) all-rows s l refl
            ∙ next-none n order.items o f g (generated order.items f g max_rows) (complete-none order.items f g (generated order.items f g max_rows) accepted.complete) s l k;
        off-missed = primes-miss n g list primes;
        primes = primes;
        alone = pruned-alone order.items all n o (generated order.items f g max_rows) all-rows;
      })

-- Pruning leaves no more rows.
pruned-fewer : (counts : ℕ → Bool) (order : List ℕ) (rows : List Row) → length (pruned counts order rows) ≤ length rows
unfolding picked pruned
pruned-fewer counts order rows = picked-fewer (marks counts order rows) rows
  where
    picked-fewer : (m : List Bool) (rows : List Row) → length (picked m rows) ≤ length rows
    picked-fewer [] rows = omega arith
    picked-fewer (b ∷ m) [] = omega arith
    picked-fewer (true ∷ m) (r ∷ rows) = omega (arith, picked-fewer m rows)
    picked-fewer (false ∷ m) (r ∷ rows) = omega (arith, picked-fewer m rows)

-- A list that is given has no more rows than a list may have.
pub accepted-few : (n : ℕ) (order : Run ℕ) (on off : Run ℤ) (room : ℕ) (rows : List Row) → whole n order on off room ≡ given rows → length rows ≤ max_rows
unfolding list_of
accepted-few n order on off room rows h =
    let made = generated order.items (satisfies on.items) (satisfies off.items) max_rows in
    let few : length (pruned all order.items made) ≤ max_rows =
    omega (arith, pruned-fewer all order.items made, (size order.items (satisfies on.items) (satisfies off.items) max_rows).0) in
    subst (λ (xs : List Row). length xs ≤ max_rows) (whole-accepted n order on off room h).rows few

-- Where every setting is decided, the list's value is whether the setting is on.
pub decided-value : (n : ℕ) (on off : ℕ → Bool) (rows : List Row) → Right n on off rows → ((s : ℕ) → s < 2 ^ n → (on s || off s) ≡ true)
    → (s : ℕ) → s < 2 ^ n → in_some rows s ≡ on s
decided-value n on off rows r decided s l =
    test (on s)
    (λ h. r.on-held s l h ∙ sym h)
    (λ h. r.off-missed s l (sym (ap (λ (b : Bool). b || off s) h) ∙ decided s l) ∙ sym h)
