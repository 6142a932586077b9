-- What is known of every question: what stands at a place of its orders is a variable, and its sheets name no others.
use mathlib.Core.Path.{◌≡◌}
use mathlib.Core.Bool.{true}
use Prim.Native.Nat.{ℕ, ◌≤◌, ◌<◌}
use lib.ListN.{length, get_or}
use Rattle.rules.specs.Words.{max_inputs}
use Rattle.rules.specs.Sheets.{in_reach}
use Rattle.sheets.specs.Numbers.{numbers_of}
use Rattle.search.specs.declared.question.Question.{Question}
use Rattle.search.proofs.Places.{reach-more, is-variable}
use Rattle.search.proofs.Swift.{swift-asked}

module _ (q : Question) where
  pub order_variable : (place v : ℕ) → place < length q.order.now → v ≡ get_or q.order.now place 0 → (1 ≤ v) × (v ≤ max_inputs)
  order_variable = is-variable q.asked

  pub swift_variable : (place v : ℕ) → place < length q.swift.now → v ≡ get_or q.swift.now place 0 → (1 ≤ v) × (v ≤ max_inputs)
  swift_variable = is-variable (swift-asked q)

  pub a_in_reach : in_reach max_inputs (numbers_of q.a.now) ≡ true
  a_in_reach = let k = q.asked in reach-more (length q.order.now) max_inputs k.size (numbers_of q.a.now) k.reach-a

  pub b_in_reach : in_reach max_inputs (numbers_of q.b.now) ≡ true
  b_in_reach = let k = q.asked in reach-more (length q.order.now) max_inputs k.size (numbers_of q.b.now) k.reach-b
