use Rattle.std.proofs.Common.{◌-◌, length, get_or, take, drop, arith}
use Rattle.std.proofs.lemmas.List.{length-take}
use Rattle.variables.specs.Assignments.{Assignment}
use Rattle.variables.specs.Records.{sizes_of, values_of}
use Rattle.problems.specs.Records.{held, placed_of}
use Rattle.floors.specs.Sources.{given_of}
use Rattle.floors.proofs.Leasts.{least_none, least_passed, least_begun, least_again, least_ended}
use Rattle.floors.proofs.plain.Given.+least.Goals as goal

pub returns-in_default : goal.returns-in_default
returns-in_default g t c =
    let sizes = sizes_of c.args.sizes.now in
    let F : Assignment → g.row.C.Denot = λ a. held g.C.Cost.structure sizes c.args.area.now a (placed_of c.args.function.now) in
    least_none g.met.C.Cost.lawful sizes (given_of c.args.self.now) F c.args.variables.now (values_of c.args.setting) c.cost.result c.in_default.len_below c.cost.ensures

pub returns-then-has : goal.returns-then-has
returns-then-has g t c =
    let sizes = sizes_of c.args.sizes.now in
    let F : Assignment → g.row.C.Denot = λ a. held g.C.Cost.structure sizes c.args.area.now a (placed_of c.args.function.now) in
    least_passed g.met.C.Cost.lawful sizes (given_of c.args.self.now) F c.args.variables.now (values_of c.args.setting) c.least.result c.in-len1-up.len_at_least c.if-has.ensures
    c.least.ensures

pub loop-value-init : goal.loop-value-init
loop-value-init g t c =
    let sizes = sizes_of c.args.sizes.now in
    let F : Assignment → g.row.C.Denot = λ a. held g.C.Cost.structure sizes c.args.area.now a (placed_of c.args.function.now) in
    least_begun g.met.C.Cost.lawful sizes (given_of c.args.self.now) F c.args.variables.now (values_of c.args.setting) c.in-len1-up.len_at_least c.if-has.ensures

pub loop-value-preserved : goal.loop-value-preserved
loop-value-preserved g t c =
    let sizes = sizes_of c.args.sizes.now in
    let F : Assignment → g.row.C.Denot = λ a. held g.C.Cost.structure sizes c.args.area.now a (placed_of c.args.function.now) in
    least_again g.met.C.Cost.lawful sizes (given_of c.args.self.now) F c.args.variables.now (values_of c.args.setting) _ _ c.loop-value.least c.loop-value.value
    (values_of c.give.new.self) c.least-cost.result c.lesser.result (omega arith) (omega (arith, length-take c.args.sizes.now.len c.args.sizes.now.sizes)) c.give.ensures c.least-cost.ensures c.lesser.ensures c.loop-value.invariant

pub returns : goal.returns
returns g t c =
    let sizes = sizes_of c.args.sizes.now in
    let vs = c.args.variables.now in
    let F : Assignment → g.row.C.Denot = λ a. held g.C.Cost.structure sizes c.args.area.now a (placed_of c.args.function.now) in
    least_ended g.met.C.Cost.lawful sizes (given_of c.args.self.now) F vs (values_of c.args.setting) (take (length vs - 1) (drop 1 vs)) (get_or vs 0 0) c.loop-value.least c.loop-value.value
    c.unwrap_or.result c.neutral.result (omega arith) c.neutral.ensures c.unwrap_or.ensures c.loop-value.invariant
