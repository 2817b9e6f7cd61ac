use Rattle.std.proofs.Common.{◌≡◌, ℕ, ◌+◌, ◌<◌, true, not, eqb, List, [], ◌∷◌, ◌++◌, map, length, get_or, take, drop, sym, ap, ◌∙◌, subst, ap₂, arith}
use mir.Facts.{Fits-below}
use Rattle.variables.specs.Assignments.{cells}
use Rattle.variables.specs.Records.{order_of, sizes_of, scope_of}
use Rattle.problems.specs.Records.{Placed, function_in}
use Rattle.floors.specs.MiniBuckets.{tabulate, eliminated}
use Rattle.buckets.specs.Tables.{Below}
use Rattle.buckets.proofs.Lows.{order_sized}
use Rattle.variables.specs.Rules.{proper}
use Rattle.floors.specs.Settings.{kept}
use Rattle.buckets.specs.Listed.{listed}
use Rattle.buckets.specs.Joining.{names}
use Rattle.buckets.proofs.Listing.{listed_length}
use Rattle.buckets.proofs.Propers.{listed_few}
use Rattle.buckets.proofs.Coming.{proper_next, passed_less}
use Rattle.buckets.proofs.Making.{making_begins, making_slot, making_room, making_below, making_inside, making_goes, making_ends, inside_as}
use Rattle.buckets.proofs.bucket.fill_bucket.Goals as goal

pub loop-waiting-init : goal.loop-waiting-init
loop-waiting-init g c =
    let plan = c.args.plan.now in
    making_begins g.C.Cost.structure (sizes_of plan.sizes) (order_of plan.order) plan.width c.args.p (listed c.args.records.now) c.args.area.now c.args.end c.requires.roomy (listed c.lying-waiting.result) c.lying-waiting.ensures

pub others-scope-requires : goal.others-scope-requires
others-scope-requires g c =
    let plan = c.args.plan.now in
    let order = order_of plan.order in
    let ws = c.loop-waiting.waiting in
    subst (λ v. proper (length (sizes_of plan.sizes)) (kept (λ u. not (eqb u v)) (kept (names (listed c.part-parted.result.members)) order)) ≡ true)
    (sym (ap (λ (l : List ℕ). get_or l c.args.p 0) c.variables.ensures))
    (subst (λ (ms : List Placed). proper (length (sizes_of plan.sizes)) (kept (λ u. not (eqb u (get_or order c.args.p 0))) (kept (names ms) order)) ≡ true) (sym c.part-parted.ensures.members)
    (proper_next (sizes_of plan.sizes) order plan.width c.args.p (listed c.args.records.now) c.requires.ready (listed ws) (omega (arith, c.len.ensures.count, c.loop-waiting-test.true)) (listed_few ws) c.loop-waiting.invariant.lies))

pub write-requires : goal.write-requires
write-requires g c =
    let K = g.C.Cost.structure in
    let plan = c.args.plan.now in
    let sizes = sizes_of plan.sizes in
    let order = order_of plan.order in
    let ws = c.loop-waiting.waiting in
    let l = c.loop-waiting in
    let var = ap (λ (x : List ℕ). get_or x c.args.p 0) c.variables.ensures in
    let ms = c.part-parted.ensures.members in
    let scope = c.others-scope.ensures ∙ ap₂ (λ v (m : List Placed). kept (λ u. not (eqb u v)) (kept (names m) order)) var ms in
    let some : 0 < length (listed ws) = omega (arith, c.len.ensures.count, c.loop-waiting-test.true) in
    record {
      there = omega (arith, making_room K sizes order plan.width c.args.p (listed c.args.records.now) c.args.area.now c.args.end c.requires.roomy (listed l.records) (listed ws) l.area l.at l.invariant some, ap (cells sizes) scope);
      some = omega (arith, order_sized plan.sizes order c.args.p c.requires.ready.ordered c.requires.ready.number, ap (λ v. get_or sizes v 0) var);
      below = subst (Below sizes l.at) (sym ms) (making_below K sizes order plan.width c.args.p (listed c.args.records.now) c.args.area.now c.args.end c.requires.roomy (listed l.records) (listed ws) l.area l.at l.invariant some);
      inside = inside_as _ _ _ _ _ _ var scope ms (making_inside K sizes order plan.width c.args.p (listed c.args.records.now) c.args.area.now c.args.end c.requires.roomy (listed l.records) (listed ws) l.area l.at l.invariant some);
    }

pub push-requires : goal.push-requires
push-requires g c =
    let plan = c.args.plan.now in
    let ws = c.loop-waiting.waiting in
    making_slot g.C.Cost.structure (sizes_of plan.sizes) (order_of plan.order) plan.width c.args.p (listed c.args.records.now) c.args.area.now c.args.end c.requires.roomy (listed c.loop-waiting.records) (listed ws) c.loop-waiting.area c.loop-waiting.at c.loop-waiting.invariant
    (omega (arith, c.len.ensures.count, c.loop-waiting-test.true)) c.requires.ready

pub loop-waiting-preserved : goal.loop-waiting-preserved
loop-waiting-preserved g c =
    let K = g.C.Cost.structure in
    let plan = c.args.plan.now in
    let sizes = sizes_of plan.sizes in
    let order = order_of plan.order in
    let ws = c.loop-waiting.waiting in
    let l = c.loop-waiting in
    let var = ap (λ (x : List ℕ). get_or x c.args.p 0) c.variables.ensures in
    let ms = c.part-parted.ensures.members in
    let scope = c.others-scope.ensures ∙ ap₂ (λ v (m : List Placed). kept (λ u. not (eqb u v)) (kept (names m) order)) var ms in
    let some : 0 < length (listed ws) = omega (arith, c.len.ensures.count, c.loop-waiting-test.true) in
    let room = making_room K sizes order plan.width c.args.p (listed c.args.records.now) c.args.area.now c.args.end c.requires.roomy (listed l.records) (listed ws) l.area l.at l.invariant some in
    making_goes K sizes order plan.width c.args.p (listed c.args.records.now) c.args.area.now c.args.end c.requires.roomy (listed l.records) (listed ws) l.area l.at l.invariant some
    _ _ (scope_of c.others-scope.result) _ _ scope
    (c.push.ensures ∙ ap (λ (f : Placed). listed l.records ++ f ∷ []) c.message.ensures)
    c.part-parted.ensures.rest (ap (λ n. l.at + n) c.table_cells-at.ensures.count)
    (c.write.ensures ∙ ap₂ (λ v (m : List Placed). take l.at l.area ++ (tabulate sizes (scope_of c.others-scope.result) (eliminated K sizes v (map (function_in sizes l.area) m)) (λ u. 0) ++ drop (l.at + cells sizes (scope_of c.others-scope.result)) l.area)) var ms)

pub overflow_add-at : goal.overflow_add-at
overflow_add-at g c =
    let plan = c.args.plan.now in
    let sizes = sizes_of plan.sizes in
    let order = order_of plan.order in
    let ws = c.loop-waiting.waiting in
    let l = c.loop-waiting in
    let var = ap (λ (x : List ℕ). get_or x c.args.p 0) c.variables.ensures in
    let scope = c.others-scope.ensures ∙ ap₂ (λ v (m : List Placed). kept (λ u. not (eqb u v)) (kept (names m) order)) var c.part-parted.ensures.members in
    let some : 0 < length (listed ws) = omega (arith, c.len.ensures.count, c.loop-waiting-test.true) in
    let room = making_room g.C.Cost.structure sizes order plan.width c.args.p (listed c.args.records.now) c.args.area.now c.args.end c.requires.roomy (listed l.records) (listed ws) l.area l.at l.invariant some in
    Fits-below {n = 18446744073709551615} tt (omega (arith, room, ap (cells sizes) scope, c.table_cells-at.ensures.count, l.invariant.long))

pub loop-waiting-smaller : goal.loop-waiting-smaller
loop-waiting-smaller g c =
    let plan = c.args.plan.now in
    let ws = c.loop-waiting.waiting in
    omega (arith, passed_less (order_of plan.order) plan.width (listed ws) (omega (arith, c.len.ensures.count, c.loop-waiting-test.true)), listed_length ws, listed_length c.part-parted.result.rest, ap length c.part-parted.ensures.rest)

pub returns : goal.returns
returns g c =
    let plan = c.args.plan.now in
    let ws = c.loop-waiting.waiting in
    making_ends g.C.Cost.structure (sizes_of plan.sizes) (order_of plan.order) plan.width c.args.p (listed c.args.records.now) c.args.area.now c.args.end c.requires.roomy (listed c.loop-waiting.records) (listed ws) c.loop-waiting.area c.loop-waiting.at c.loop-waiting.invariant
    (omega (arith, listed_length ws, c.loop-waiting-test.false))
