use Rattle.std.proofs.Common.{◌≡◌, ℕ, List, ap, ◌∙◌}
use Rattle.variables.specs.declared.plain.Scope.{Scope}
use Rattle.variables.specs.Assignments.{of}
use Rattle.variables.specs.Records.{sizes_of, scope_of, values_of}
use Rattle.problems.specs.Records.{held, placed_of}
use Rattle.floors.specs.Floors.{cheapest}
use Rattle.floors.specs.Sources.{given_of}
use Rattle.floors.proofs.first_choice.choice.Goals as goal

pub returns : goal.returns
returns g c =
    let K = g.C.Cost.structure in
    let area = c.args.area.now in
    let f = placed_of c.args.function.now in
    let sizes = sizes_of c.args.sizes.now in
    let scope : c.variables.result.now ≡ f.scope = c.variables.ensures ∙ ap (λ (s : Scope). scope_of s) c.scope-scope.ensures in
    c.least.ensures ∙ ap (λ (vs : List ℕ). cheapest K sizes (given_of c.args.given.now) vs (λ b. held K sizes area b f) (of (values_of c.args.setting))) scope
