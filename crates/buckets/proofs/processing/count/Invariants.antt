use Rattle.variables.specs.Records.{sizes_of, order_of}
use Rattle.buckets.specs.Listed.{listed}
use Rattle.buckets.proofs.Walking.{Tally}
use Rattle.buckets.proofs.processing.count.Given as goal

-- the messages of the buckets so far are counted
abbrev pub invariant-loop-p : goal.invariant-loop-p
invariant-loop-p l = Tally (sizes_of l.plan.sizes) (order_of l.plan.order) l.plan.width (listed l.functions) l.p (listed l.records) l.cells
