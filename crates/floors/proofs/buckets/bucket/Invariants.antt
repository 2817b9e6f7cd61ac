use Rattle.std.proofs.Common.{◌≡◌, max, drop}
use Rattle.variables.specs.Records.{order_of, scope_of}
use Rattle.floors.specs.ByNumber.{bucket_of}
use Rattle.floors.proofs.buckets.bucket.Given as goal

-- the latest so far and the latest of the rest
abbrev pub invariant-loop-v : goal.invariant-loop-v
invariant-loop-v l = max l.latest (bucket_of (order_of l.order) (drop l.v-index (scope_of l.scope))) ≡ bucket_of (order_of l.order) (scope_of l.scope)
