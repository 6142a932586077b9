-- The loop has written 1 up to the place.
use Rattle.std.proofs.Common.{◌≡◌, take}
use Rattle.rules.specs.Words.{natural}
use Rattle.rules.proofs.order.natural_order.Given as goal

abbrev pub invariant-loop-place : goal.invariant-loop-place
invariant-loop-place l = take l.place l.order ≡ natural l.place
