use Rattle.std.proofs.Common.{List, map, ap, ◌∙◌}
use mathlib.Core.Path.{fun_ext}
use Rattle.costs.specs.Structures.{total}
use Rattle.variables.specs.Assignments.{Assignment, of}
use Rattle.variables.specs.Records.{sizes_of, values_of}
use Rattle.problems.specs.Records.{Placed, held, placed}
use Rattle.problems.proofs.Bounds.{all_there}
use Rattle.problems.proofs.shape.Shape.cost.Goals as goal

pub returns-clause-full : goal.returns-clause-full
returns-clause-full g c =
    let K = g.C.Cost.structure in
    let fs = placed c.args.self.now.functions in
    let sizes = sizes_of c.args.self.now.sizes in
    let area = c.args.area.now in
    let exact = c.combined_cost.ensures ∙ ap (λ (ps : List Placed). total K (map (held K sizes area (of (values_of c.args.setting.now))) ps)) c.functions.ensures.all in
    λ s full same. exact ∙ ap (λ (b : Assignment). total K (map (held K sizes area b) fs)) (fun_ext same)
    ∙ ap (total K) (all_there K sizes area s full fs c.args.self.now.scoped)
