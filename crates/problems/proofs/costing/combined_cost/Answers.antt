use Rattle.std.proofs.Common.{◌≡◌, ◌<◌, ◌≤◌, map, length, get_or, sym, ap, ◌∙◌, arith}
use Rattle.std.proofs.lemmas.List.{at_drop_more, at_drop_all, length-map, get_or-map}
use Rattle.costs.proofs.Totals.{folded, folded_total}
use Rattle.variables.specs.Assignments.{of}
use Rattle.variables.specs.Records.{sizes_of, values_of}
use Rattle.problems.specs.Records.{held, placed_of}
use Rattle.problems.proofs.costing.combined_cost.Goals as goal

pub loop-record-preserved : goal.loop-record-preserved
loop-record-preserved g c =
    let K = g.C.Cost.structure in
    let rs = c.args.records.now in
    let r = c.record-item.result in
    let k = c.loop-record.record-index in
    let p = placed_of {END = g.row.END} in
    let h = held K (sizes_of c.args.sizes.now) c.args.area.now (of (values_of c.args.setting.now)) in
    let costs = map h (map p rs) in
    let few : k < length (map p rs) = omega (arith, length-map rs p) in
    let long : k < length costs = omega (arith, length-map (map p rs) h) in
    let step = at_drop_more (folded K c.loop-record.sum) costs k K.neutral long in
    let item = get_or-map h (map p rs) k (p r) K.neutral few ∙ ap h (get_or-map p rs k r (p r) (omega arith) ∙ ap p (sym c.record-item.is)) in
    let here : c.cost.result ≡ get_or costs k K.neutral = c.cost.ensures ∙ sym item in
    rw (c.combine-sum.ensures, here, ← step) c.loop-record.invariant

pub returns : goal.returns
returns g c =
    let K = g.C.Cost.structure in
    let rs = c.args.records.now in
    let p = placed_of {END = g.row.END} in
    let h = held K (sizes_of c.args.sizes.now) c.args.area.now (of (values_of c.args.setting.now)) in
    let costs = map h (map p rs) in
    let long : length costs ≤ c.loop-record.record-index = omega (arith, length-map (map p rs) h, length-map rs p) in
    sym (at_drop_all (folded K c.loop-record.sum) costs c.loop-record.record-index long) ∙ c.loop-record.invariant ∙ folded_total K g.met.C.Cost.lawful costs
