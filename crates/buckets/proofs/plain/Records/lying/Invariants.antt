use Rattle.std.proofs.Common.{◌≡◌, ◌≤◌, ◌++◌, length, drop}
use Rattle.variables.specs.Records.{order_of}
use Rattle.floors.specs.Settings.{kept}
use Rattle.buckets.specs.Listed.{listed}
use Rattle.buckets.specs.Joining.{lies_at}
use Rattle.buckets.proofs.plain.Records.lying.Given as goal

-- those found, and those still to be
abbrev pub invariant-loop-function : goal.invariant-loop-function
invariant-loop-function l =
    (listed l.lying ++ kept (lies_at (order_of l.order) l.number) (drop l.function-index (listed l.self)) ≡ kept (lies_at (order_of l.order) l.number) (listed l.self)) ×
    (length (listed l.lying) ≤ l.function-index)
