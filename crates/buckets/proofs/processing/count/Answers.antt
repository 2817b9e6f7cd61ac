use Rattle.std.proofs.Common.{length, refl, ap, arith}
use Rattle.variables.specs.Records.{order_of, sizes_of}
use Rattle.buckets.specs.Listed.{listed}
use Rattle.buckets.proofs.Walking.{walk_ready, tally_goes}
use Rattle.buckets.proofs.processing.count.Goals as goal

pub count_bucket-cells-requires : goal.count_bucket-cells-requires
count_bucket-cells-requires c =
    let plan = c.args.plan.now in
    walk_ready (sizes_of plan.sizes) (order_of plan.order) plan.width (listed c.args.functions.now) c.requires c.loop-p.p c.loop-p-test.true (omega (arith, c.loop-p.auto.p, ap length c.variables-p.ensures))
    (listed c.loop-p.records) c.loop-p.invariant.scopes

pub loop-p-preserved : goal.loop-p-preserved
loop-p-preserved c =
    let plan = c.args.plan.now in
    tally_goes (sizes_of plan.sizes) (order_of plan.order) plan.width (listed c.args.functions.now) c.requires c.loop-p.p (listed c.loop-p.records) _ c.loop-p.cells c.count_bucket-cells.result _
    c.loop-p-test.true (omega (arith, c.loop-p.auto.p, ap length c.variables-p.ensures)) c.loop-p.invariant c.count_bucket-cells.ensures.records c.count_bucket-cells.ensures.cells c.count_bucket-cells.ensures.few refl
