use Rattle.std.proofs.Common.{◌≡◌, ℕ, ◌<◌, false, ◌||◌, get_or, drop}
use Rattle.buckets.specs.Listed.{listed}
use Rattle.buckets.specs.Joining.{names}
use Rattle.buckets.proofs.plain.Records.named.Given as goal

-- the variables marked, and those still to be
abbrev pub invariant-loop-function : goal.invariant-loop-function
invariant-loop-function l = (v : ℕ) → v < 32 → (get_or l.named.named v false || names (drop l.function-index (listed l.self)) v) ≡ names (listed l.self) v
