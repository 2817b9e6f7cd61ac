use Rattle.std.proofs.Common.{◌≡◌, ℕ, ◌<◌, false, ◌||◌, length, get_or, drop}
use Rattle.variables.specs.Lists.{has}
use Rattle.variables.specs.Records.{scope_of}
use Rattle.buckets.proofs.plain.Named.add.Given as goal

-- those marked, and those still to be
abbrev pub invariant-loop-v : goal.invariant-loop-v
invariant-loop-v l =
    (length l.named ≡ 32) ×
    ((v : ℕ) → v < 32 → (get_or l.named v false || has (drop l.v-index (scope_of l.scope)) v) ≡ (get_or l.initial.named v false || has (scope_of l.scope) v))
