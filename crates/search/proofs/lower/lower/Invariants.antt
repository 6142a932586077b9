use mathlib.Core.Path.{◌≡◌}
use mathlib.Core.Option.{some}
use Prim.Native.Nat.{ℕ}
use lib.ListN.{length, drop}
use Rattle.rules.specs.Search.{smallest}
use Rattle.search.specs.Good.{good_of}
use Rattle.search.specs.Question.{Ahead, Met}
use Rattle.search.proofs.lower.lower.Given as goal

abbrev pub invariant-loop-at : goal.invariant-loop-at
invariant-loop-at l = record {
  ahead : Ahead l.q.order.now l.at l.held.row;
  met : Met (good_of l.q) (length l.q.order.now) l.held.row l.held.met.0;
  same : (t : ℕ) → some t ≡ smallest (good_of l.q) (drop l.at l.q.order.now) l.held.row
      → some t ≡ smallest (good_of l.q) (drop l.fn.place.0 l.q.order.now) l.initial.held.row;
}
