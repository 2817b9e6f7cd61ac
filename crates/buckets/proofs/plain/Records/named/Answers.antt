use Rattle.std.proofs.Common.{false, get_or, ap}
use Rattle.variables.specs.Records.{scope_of}
use Rattle.buckets.specs.Listed.{listed, tabled}
use Rattle.buckets.specs.Joining.{names}
use Rattle.buckets.proofs.Listing.{mapped_drop}
use Rattle.buckets.proofs.Marking.{named_more}
use Rattle.buckets.proofs.plain.Records.named.Goals as goal

pub loop-function-preserved : goal.loop-function-preserved
loop-function-preserved c =
    let s = c.args.self.now in
    let k = c.loop-function.function-index in
    let item = c.function-item.result in
    λ v l. named_more (listed s) k (tabled item) (scope_of c.scope.result) v (get_or c.loop-function.named.named v false) (get_or c.add.new.self.named v false) (names (listed s) v)
    (ap scope_of c.scope.ensures) (mapped_drop tabled c.as_slice-function-items.result.now (listed s) c.as_slice-function-items.ensures.records k c.function-item.result c.loop-function-test.true c.function-item.is) (c.loop-function.invariant v l) (c.add.ensures v l)
