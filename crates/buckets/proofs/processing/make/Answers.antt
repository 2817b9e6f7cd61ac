use Rattle.std.proofs.Common.{◌≡◌, ℕ, ◌-◌, ◌≤◌, List, length, set, replicate, ap, ◌∙◌, arith}
use Rattle.std.proofs.lemmas.List.{length-append, length-take, length-set, get_or-set_same}
use Rattle.variables.specs.Records.{order_of, sizes_of}
use Rattle.variables.specs.declared.plain.Order.{Order}
use Rattle.variables.proofs.Slots.{same_slots, each_after}
use Rattle.problems.specs.Records.{Placed}
use Rattle.buckets.specs.Listed.{listed}
use Rattle.buckets.proofs.Walking.{walk_ready, gone_begins, gone_scopes, gone_roomy, gone_goes}
use Rattle.buckets.proofs.processing.make.Goals as goal

few : (o : Order) (items : List ℕ) → items ≡ order_of o → length items ≤ 32
few o items e = omega (arith, ap length e, length-take o.variables.len o.variables.slots, o.variables.few)

pub loop-p-init : goal.loop-p-init
loop-p-init g c =
    let plan = c.args.plan.now in
    let fs = c.args.functions.now in
    let n = length c.variables-n.result.now in
    let reach = set (replicate 33 0) n c.len.result in
    let low = few plan.order c.variables-n.result.now c.variables-n.ensures in (
      gone_begins g.C.Cost.structure (sizes_of plan.sizes) (order_of plan.order) plan.width (listed fs) c.args.area.now c.args.at c.requires.able c.requires.spacious n reach (ap length c.variables-n.ensures)
          (get_or-set_same (replicate 33 0) n c.len.result 0 (omega arith) ∙ c.len.ensures.count),
      length-set (replicate 33 0) n c.len.result,
      each_after (λ x. x ≤ length (listed fs)) (replicate 33 0) n c.len.result 0 (omega (arith, c.len.ensures.count)) (λ v. omega (arith, same_slots {X = ℕ} 33 v 0)),
    )

pub fill_bucket-end-requires : goal.fill_bucket-end-requires
fill_bucket-end-requires g c =
    let plan = c.args.plan.now in
    let l = c.loop-p in
    let inside : l.p ≤ length (order_of plan.order) = omega (arith, l.auto.p, ap length c.variables-n.ensures) in
    let K = g.C.Cost.structure in
    record {
      ready = walk_ready (sizes_of plan.sizes) (order_of plan.order) plan.width (listed c.args.functions.now) c.requires.able l.p c.loop-p-test.true inside (listed l.records)
          (gone_scopes K (sizes_of plan.sizes) (order_of plan.order) plan.width (listed c.args.functions.now) c.args.area.now c.args.at c.requires.able c.requires.spacious l.p c.loop-p-test.true inside (listed l.records) l.reach l.area l.end l.invariant.0);
      roomy = gone_roomy K (sizes_of plan.sizes) (order_of plan.order) plan.width (listed c.args.functions.now) c.args.area.now c.args.at c.requires.able c.requires.spacious l.p c.loop-p-test.true inside (listed l.records) l.reach l.area l.end l.invariant.0;
    }

pub loop-p-preserved : goal.loop-p-preserved
loop-p-preserved g c =
    let plan = c.args.plan.now in
    let l = c.loop-p in
    let inside : l.p ≤ length (order_of plan.order) = omega (arith, l.auto.p, ap length c.variables-n.ensures) in
    let low = few plan.order c.variables-n.result.now c.variables-n.ensures in
    let after = c.fill_bucket-end.new.records in (
      gone_goes g.C.Cost.structure (sizes_of plan.sizes) (order_of plan.order) plan.width (listed c.args.functions.now) c.args.area.now c.args.at c.requires.able c.requires.spacious l.p c.loop-p-test.true inside (listed l.records) l.reach l.area l.end l.invariant.0
          (listed after) c.fill_bucket-end.new.area c.fill_bucket-end.result c.fill_bucket-end.ensures _ l.invariant.1 (omega (arith, l.auto.p)) (ap (set l.reach (l.p - 1)) c.len-in-loop-p.ensures.count),
      length-set l.reach (l.p - 1) c.len-in-loop-p.result ∙ l.invariant.1,
      each_after (λ x. x ≤ length (listed after)) l.reach (l.p - 1) c.len-in-loop-p.result 0 (omega (arith, c.len-in-loop-p.ensures.count)) (λ q. omega (arith, l.invariant.2 q, ap length c.fill_bucket-end.ensures.records, length-append {A = Placed})),
    )
