use Rattle.std.proofs.Common.{◌≡◌, ℕ, true, List, map, sym, ◌∙◌, subst, ap₂}
use Rattle.costs.specs.Structures.{total}
use Rattle.variables.specs.declared.plain.Setting.{Setting}
use Rattle.variables.specs.declared.plain.Sizes.{Sizes}
use Rattle.problems.specs.Outlines.{outline, problem}
use Rattle.variables.specs.Assignments.{of}
use Rattle.problems.specs.Problems.{cost}
use Rattle.variables.specs.Records.{sizes_of, values_of}
use Rattle.problems.specs.Records.{Placed, held, placed_of}
use Rattle.floors.specs.Floors.{paid_floor}
use Rattle.floors.specs.Shapes.{shaped}
use Rattle.floors.specs.Climbs.{admissible}
use Rattle.floors.specs.Admissions.{paid_climbs}
use Rattle.floors.specs.Sources.{picked}
use Rattle.floors.proofs.Paids.{paid_told, given}
use Rattle.floors.proofs.paid.PaidFloorSource.floor.Goals as goal

pub returns : goal.returns
returns g c =
    let K = g.C.Cost.structure in
    let L = g.met.C.Cost.lawful in
    let o = outline c.args.shape.now in
    let area = c.args.area.now in
    let p = problem o area in
    let bs = c.args.self.now.buckets.places in
    let n = c.args.prefix.now.len in
    let values = values_of c.args.prefix.now.setting in
    let sum = c.cost_up_to.ensures
    ∙ ap₂ (λ (z : Sizes) (s : Setting). total K (map (held K (sizes_of z) area (of (values_of s))) (picked bs c.len.result 0 (map placed_of c.functions.result.now)))) c.domains.ensures c.values-values.ensures
    ∙ ap₂ (λ (m : ℕ) (fs : List Placed). total K (map (held K o.sizes area (of values)) (picked bs m 0 fs))) c.len.ensures c.functions.ensures.all in
    record {
      told = λ le noted formed fits. sum ∙ paid_told K L o area formed values n le fits bs noted;
      low = λ le noted suits formed fits t full begins.
          subst (λ (r : g.row.C.Denot). K.at_most r (cost K p t) ≡ true) (sym (sum ∙ paid_told K L o area formed values n le fits bs noted))
          (admissible L p (shaped p formed) (paid_floor K p) (paid_climbs L p) (given K L o area formed values n le) t fits.0 full begins);
    }
