use Rattle.std.proofs.Common.{◌≡◌, ℕ, ◌<◌, ◌≤◌, false, [], ◌++◌, length, get_or, drop}
use Rattle.variables.specs.Records.{order_of}
use Rattle.buckets.specs.Listed.{listed}
use Rattle.buckets.specs.Joining.{names, taken, passed}
use Rattle.buckets.proofs.parting.part.Given as goal

-- those taken and passed so far, and what becomes of the others
abbrev pub invariant-loop-function : goal.invariant-loop-function
invariant-loop-function l =
    (taken (order_of l.order) l.width (listed l.members) (drop l.function-index (listed l.waiting)) ≡ taken (order_of l.order) l.width [] (listed l.waiting)) ×
    (listed l.rest ++ passed (order_of l.order) l.width (listed l.members) (drop l.function-index (listed l.waiting)) ≡ passed (order_of l.order) l.width [] (listed l.waiting)) ×
    ((v : ℕ) → v < 32 → get_or l.named.named v false ≡ names (listed l.members) v) ×
    (length (listed l.members) ≤ l.function-index) × (length (listed l.rest) ≤ l.function-index)
