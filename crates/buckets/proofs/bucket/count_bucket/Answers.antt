use Rattle.std.proofs.Common.{◌≡◌, ℕ, ◌+◌, true, not, eqb, List, [], ◌∷◌, ◌++◌, length, get_or, sym, ap, ◌∙◌, subst, ap₂, arith}
use Rattle.variables.specs.Records.{order_of, sizes_of, scope_of}
use Rattle.problems.specs.Records.{Placed}
use Rattle.variables.specs.Rules.{proper}
use Rattle.floors.specs.Settings.{kept}
use Rattle.buckets.specs.Listed.{listed}
use Rattle.buckets.specs.Joining.{names}
use Rattle.buckets.proofs.Listing.{listed_length}
use Rattle.buckets.proofs.Propers.{listed_few}
use Rattle.buckets.proofs.Coming.{proper_next, passed_less, counting_begins, counting_slot, counting_goes}
use Rattle.buckets.proofs.bucket.count_bucket.Goals as goal

pub loop-waiting-init : goal.loop-waiting-init
loop-waiting-init c =
    let plan = c.args.plan.now in
    counting_begins (sizes_of plan.sizes) (order_of plan.order) plan.width c.args.p (listed c.args.records.now) (listed c.lying-waiting.result) c.lying-waiting.ensures

pub others-scope-requires : goal.others-scope-requires
others-scope-requires c =
    let plan = c.args.plan.now in
    let order = order_of plan.order in
    let ws = c.loop-waiting.waiting in
    subst (λ v. proper (length (sizes_of plan.sizes)) (kept (λ u. not (eqb u v)) (kept (names (listed c.part-parted.result.members)) order)) ≡ true)
    (sym (ap (λ (l : List ℕ). get_or l c.args.p 0) c.variables.ensures))
    (subst (λ (ms : List Placed). proper (length (sizes_of plan.sizes)) (kept (λ u. not (eqb u (get_or order c.args.p 0))) (kept (names ms) order)) ≡ true) (sym c.part-parted.ensures.members)
    (proper_next (sizes_of plan.sizes) order plan.width c.args.p (listed c.args.records.now) c.requires (listed ws) (omega (arith, c.len.ensures.count, c.loop-waiting-test.true)) (listed_few ws) c.loop-waiting.invariant.lies))

pub push-requires : goal.push-requires
push-requires c =
    let plan = c.args.plan.now in
    let ws = c.loop-waiting.waiting in
    counting_slot (sizes_of plan.sizes) (order_of plan.order) plan.width c.args.p (listed c.args.records.now) (listed c.loop-waiting.records) (listed ws) c.loop-waiting.cells c.loop-waiting.invariant
    (omega (arith, c.len.ensures.count, c.loop-waiting-test.true)) c.requires

pub loop-waiting-preserved : goal.loop-waiting-preserved
loop-waiting-preserved c =
    let plan = c.args.plan.now in
    let order = order_of plan.order in
    let ws = c.loop-waiting.waiting in
    let var = ap (λ (l : List ℕ). get_or l c.args.p 0) c.variables.ensures in
    let scope = c.others-scope.ensures ∙ ap₂ (λ v (ms : List Placed). kept (λ u. not (eqb u v)) (kept (names ms) order)) var c.part-parted.ensures.members in
    counting_goes (sizes_of plan.sizes) order plan.width c.args.p (listed c.args.records.now) (listed c.loop-waiting.records) (listed ws) c.loop-waiting.cells c.loop-waiting.invariant
    (omega (arith, c.len.ensures.count, c.loop-waiting-test.true)) _ _ (scope_of c.others-scope.result) _ scope
    (c.push.ensures ∙ ap (λ (f : Placed). listed c.loop-waiting.records ++ f ∷ []) c.message.ensures) c.part-parted.ensures.rest
    (ap (λ n. c.loop-waiting.cells + n) c.table_cells-cells.ensures.count) (omega (arith, c.table_cells-cells.ensures.few, c.table_cells-cells.ensures.count))

pub loop-waiting-smaller : goal.loop-waiting-smaller
loop-waiting-smaller c =
    let plan = c.args.plan.now in
    let ws = c.loop-waiting.waiting in
    omega (arith, passed_less (order_of plan.order) plan.width (listed ws) (omega (arith, c.len.ensures.count, c.loop-waiting-test.true)), listed_length ws, listed_length c.part-parted.result.rest, ap length c.part-parted.ensures.rest)
