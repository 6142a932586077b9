use Prim.Native.Nat.{◌-◌}
use lib.ListN.{length}
use Rattle.search.proofs.smallest.+search.Given as goal

-- the places left
abbrev pub decreases-search : goal.decreases-search
decreases-search l = length l.q.now.swift.now - l.place.0
