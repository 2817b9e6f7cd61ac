use Rattle.std.proofs.Common.{◌≡◌, ℕ, ◌+◌, ◌<◌, ◌≤◌, map, length, get_or, Option, sym, refl, ap, ◌∙◌, arith}
use Rattle.std.specs.Option.{unwrap_or}
use Rattle.costs.proofs.Totals.{folded_total}
use Rattle.variables.specs.Assignments.{of}
use Rattle.variables.specs.Records.{sizes_of, values_of}
use Rattle.problems.specs.Records.{held, held_by, placed_of}
use Rattle.problems.proofs.Placements.{mapped_length, mapped_nth}
use Rattle.floors.specs.Sources.{picked}
use Rattle.floors.proofs.Pickings.{rest, picks, passes, all_picked}
use Rattle.floors.proofs.plain.Places.cost_up_to.Goals as goal
use Rattle.floors.proofs.plain.Places.cost_up_to.Goals.{then-place-last, else-place-last}

pub loop-k-preserved : goal.loop-k-preserved
loop-k-preserved g c =
    let K = g.C.Cost.structure in
    let sizes = sizes_of c.args.sizes.now in
    let area = c.args.area.now in
    let ps = c.args.self.now.places in
    let n = c.args.last in
    let a = of (values_of c.args.setting.now) in
    let items = c.args.records.now in
    let p = placed_of {END = g.row.END} in
    let fs = map p items in
    let k = c.loop-k.k in
    let long : k < length fs = omega (arith, mapped_length p items fs refl, c.loop-k-test.true) in
    let place : c.unwrap_or-place.result ≡ get_or ps k 0 =
    c.unwrap_or-place.ensures ∙ ap (λ (o : Option ℕ). unwrap_or o 0) c.copied.ensures ∙ c.get.ensures.lookup.4 (omega arith) 0 in
    elim c.if-place-last.branch [
      | then-place-last w ↦
          let here = w.cost.ensures ∙ sym (ap (held_by K sizes area a) (mapped_nth p items fs refl k c.index-records-k.result c.loop-k-test.true c.index-records-k.is)) in
          ap (λ (sum : g.row.C.Denot). rest K sizes area a ps n fs sum (k + 1)) (w.sum-is ∙ w.combine-sum.ensures)
          ∙ picks K sizes area a ps n fs c.loop-k.sum w.cost.result k _ long (omega (arith, place, w.if-place-last.true)) here c.loop-k.invariant
      | else-place-last w ↦
          ap (λ (sum : g.row.C.Denot). rest K sizes area a ps n fs sum (k + 1)) w.sum-is
          ∙ passes K sizes area a ps n fs c.loop-k.sum k _ long (omega (arith, place, w.if-place-last.false)) c.loop-k.invariant
    ]

pub returns : goal.returns
returns g c =
    let K = g.C.Cost.structure in
    let p = placed_of {END = g.row.END} in
    let fs = map p c.args.records.now in
    let sizes = sizes_of c.args.sizes.now in
    let a = of (values_of c.args.setting.now) in
    let end : length fs ≤ c.loop-k.k = omega (arith, mapped_length p c.args.records.now fs refl, c.loop-k-test.false) in
    all_picked K sizes c.args.area.now a c.args.self.now.places c.args.last fs c.loop-k.sum c.loop-k.k _ end c.loop-k.invariant
    ∙ folded_total K g.met.C.Cost.lawful (map (held K sizes c.args.area.now a) (picked c.args.self.now.places c.args.last 0 fs))
