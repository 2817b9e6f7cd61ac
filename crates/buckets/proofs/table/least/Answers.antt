use Rattle.std.proofs.Common.{◌≡◌, ℕ, ◌<◌, Bool, cond, List, map, get_or, set, sym, ap, ◌∙◌, arith}
use Rattle.std.proofs.lemmas.List.{set-set}
use Rattle.costs.specs.Structures.{total}
use Rattle.variables.specs.Assignments.{Assignment, of}
use Rattle.variables.specs.Records.{sizes_of, values_of}
use Rattle.problems.specs.Records.{held}
use Rattle.variables.specs.declared.plain.Setting.{Setting}
use Rattle.variables.specs.declared.plain.Sizes.{Sizes}
use Rattle.floors.specs.Leasts.{lesser}
use Rattle.floors.specs.Settings.{assign}
use Rattle.buckets.specs.Listed.{listed}
use Rattle.buckets.proofs.Leasts.{least_first, least_more}
use Rattle.buckets.proofs.Lows.{sized_low}
use Rattle.buckets.proofs.Tuples.{of_set}
use Rattle.buckets.proofs.table.least.Goals as goal
use Rattle.buckets.proofs.table.least.Goals.{then-not-is_at_most, else-not-is_at_most}

given : (sizes : Sizes) (t : Setting) (v : ℕ) → 0 < get_or (sizes_of sizes) v 0 → (c : ℕ) (s : List ℕ) → s ≡ set (values_of t) v c → of s ≡ assign (of (values_of t)) v c
given sizes t v some c s e = ap of e ∙ of_set (values_of t) v c (omega (arith, sized_low sizes v some, t.long))

pub loop-value-init : goal.loop-value-init
loop-value-init g c =
    let K = g.C.Cost.structure in
    let sizes = sizes_of c.args.sizes.now in
    let v = c.args.variable in
    let t = c.args.tuple.now in
    let at : Assignment → g.row.C.Denot = λ a. total K (map (held K sizes c.args.area.now a) (listed c.args.members.now)) in (
      least_first g.met.C.Cost.lawful (λ x. at (assign (of (values_of t)) v x)) (get_or sizes v 0) c.cost-least.result c.requires
          (c.cost-least.ensures ∙ ap at (given c.args.sizes.now t v c.requires 0 _ c.give.ensures)),
      λ x. ap (λ (l : List ℕ). set l v x) c.give.ensures ∙ set-set (values_of t) v 0 x,
    )

pub loop-value-preserved : goal.loop-value-preserved
loop-value-preserved g c =
    let K = g.C.Cost.structure in
    let sizes = sizes_of c.args.sizes.now in
    let v = c.args.variable in
    let t = c.args.tuple.now in
    let l = c.loop-value in
    let value = l.value in
    let at : Assignment → g.row.C.Denot = λ a. total K (map (held K sizes c.args.area.now a) (listed c.args.members.now)) in
    let slots : values_of c.give-in-loop-value.new.self ≡ set (values_of t) v value = c.give-in-loop-value.ensures ∙ l.invariant.1 value in
    let here : c.cost-cost.result ≡ at (assign (of (values_of t)) v value) = c.cost-cost.ensures ∙ ap at (given c.args.sizes.now t v c.requires value _ slots) in
    let test : K.at_most l.least c.cost-cost.result ≡ c.is_at_most.result = sym c.is_at_most.ensures in
    let step : c.if-not-is_at_most.least ≡ lesser K l.least c.cost-cost.result =
    elim c.if-not-is_at_most.branch [
      | then-not-is_at_most w ↦ w.least-is ∙ sym (ap (λ (b : Bool). cond b l.least c.cost-cost.result) (test ∙ w.if-not-is_at_most.true))
      | else-not-is_at_most w ↦ w.least-is ∙ sym (ap (λ (b : Bool). cond b l.least c.cost-cost.result) (test ∙ w.if-not-is_at_most.false))
    ] in (
      least_more g.met.C.Cost.lawful (λ x. at (assign (of (values_of t)) v x)) (get_or sizes v 0) l.least c.if-not-is_at_most.least value _ (omega (arith, c.loop-value-test.true, c.size-value-end.ensures)) l.invariant.0
          (step ∙ ap (lesser K l.least) here),
      λ x. ap (λ (s : List ℕ). set s v x) slots ∙ set-set (values_of t) v value x,
    )
