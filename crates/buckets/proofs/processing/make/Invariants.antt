use Rattle.std.proofs.Common.{◌≡◌, ℕ, ◌≤◌, length, get_or}
use Rattle.variables.specs.Records.{sizes_of, order_of}
use Rattle.buckets.specs.Going.{Gone}
use Rattle.buckets.specs.Listed.{listed}
use Rattle.buckets.proofs.processing.make.Given as goal

-- the buckets so far are processed, and how far they reach is noted
abbrev pub invariant-loop-p : goal.invariant-loop-p
invariant-loop-p g l =
    Gone g.C.Cost.structure (sizes_of l.plan.sizes) (order_of l.plan.order) l.plan.width (listed l.functions) l.initial.area l.at l.p (listed l.records) l.reach l.area l.end ×
    (length l.reach ≡ 33) × ((q : ℕ) → get_or l.reach q 0 ≤ length (listed l.records))
