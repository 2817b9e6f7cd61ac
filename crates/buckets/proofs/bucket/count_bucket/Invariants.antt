use Rattle.variables.specs.Records.{sizes_of, order_of}
use Rattle.buckets.specs.Listed.{listed}
use Rattle.buckets.proofs.Coming.{Counting}
use Rattle.buckets.proofs.bucket.count_bucket.Given as goal

-- those counted, and those still to come
abbrev pub invariant-loop-waiting : goal.invariant-loop-waiting
invariant-loop-waiting l = Counting (sizes_of l.plan.sizes) (order_of l.plan.order) l.plan.width l.p (listed l.initial.records) (listed l.records) (listed l.waiting) l.cells

abbrev pub decreases-loop-waiting : goal.decreases-loop-waiting
decreases-loop-waiting l = l.waiting.list.len
