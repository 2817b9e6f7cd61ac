use Rattle.variables.specs.Records.{sizes_of, order_of}
use Rattle.buckets.specs.Listed.{listed}
use Rattle.buckets.proofs.Making.{Making}
use Rattle.buckets.proofs.bucket.fill_bucket.Given as goal

-- those made, and those still to come
abbrev pub invariant-loop-waiting : goal.invariant-loop-waiting
invariant-loop-waiting g l =
    Making g.C.Cost.structure (sizes_of l.plan.sizes) (order_of l.plan.order) l.plan.width l.p (listed l.initial.records) l.initial.area l.end (listed l.records) (listed l.waiting) l.area l.at

abbrev pub decreases-loop-waiting : goal.decreases-loop-waiting
decreases-loop-waiting g l = l.waiting.list.len
