use Rattle.std.proofs.Common.{◌≡◌, ◌+◌, drop}
use Rattle.variables.specs.Records.{order_of}
use Rattle.floors.specs.ByNumber.{place_from}
use Rattle.floors.proofs.buckets.place.Given as goal

-- the rest of the order leads on to the place
abbrev pub invariant-loop-k : goal.invariant-loop-k
invariant-loop-k l = place_from (l.k + 1) (drop l.k (order_of l.order)) l.variable ≡ place_from 1 (order_of l.order) l.variable
