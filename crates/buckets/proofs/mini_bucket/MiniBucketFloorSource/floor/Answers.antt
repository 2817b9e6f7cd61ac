use Rattle.std.proofs.Common.{◌≡◌, ℕ, true, List, map, get_or, take, sym, ap, ◌∙◌, subst, ap₂}
use Rattle.std.proofs.lemmas.List.{take-map}
use Rattle.costs.specs.Structures.{total}
use Rattle.variables.specs.declared.plain.Setting.{Setting}
use Rattle.variables.specs.declared.plain.Sizes.{Sizes}
use Rattle.problems.specs.Outlines.{outline, problem}
use Rattle.variables.specs.Assignments.{of}
use Rattle.problems.specs.Problems.{cost}
use Rattle.variables.specs.Records.{sizes_of, values_of}
use Rattle.problems.specs.Records.{Placed, held}
use Rattle.floors.specs.MiniBuckets.{mini_bucket_floor}
use Rattle.floors.specs.Shapes.{shaped}
use Rattle.floors.specs.Climbs.{admissible}
use Rattle.floors.specs.Admissions.{mini_bucket_climbs}
use Rattle.floors.specs.Sources.{picked}
use Rattle.floors.proofs.Paids.{given}
use Rattle.buckets.specs.Listed.{listed, tabled}
use Rattle.buckets.proofs.Flooring.{mini_told}
use Rattle.buckets.proofs.mini_bucket.MiniBucketFloorSource.floor.Goals as goal

pub returns : goal.returns
returns g c =
    let K = g.C.Cost.structure in
    let L = g.met.C.Cost.lawful in
    let o = outline c.args.shape.now in
    let area = c.args.area.now in
    let p = problem o area in
    let s = c.args.self.now in
    let bs = s.buckets.places in
    let n = c.args.prefix.now.len in
    let values = values_of c.args.prefix.now.setting in
    let items = c.as_slice.result.now in
    let some = take (get_or s.made.reach c.len-len.result 0) items in
    let same : map tabled some ≡ take (get_or s.made.reach c.len-len.result 0) (listed s.made.records) =
    sym (take-map tabled (get_or s.made.reach c.len-len.result 0) items) ∙ ap (take (get_or s.made.reach c.len-len.result 0)) c.as_slice.ensures.records in
    let sum = c.cost_up_to.ensures
    ∙ ap₂ (λ (z : Sizes) (x : Setting). total K (map (held K (sizes_of z) area (of (values_of x))) (picked bs c.len-len.result 0 (map tabled some)))) c.domains.ensures c.values.ensures
    ∙ ap (λ (l : List Placed). total K (map (held K o.sizes area (of values)) (picked bs c.len-len.result 0 l))) same
    ∙ ap₂ (λ (m : ℕ) (l : ℕ). total K (map (held K o.sizes area (of values)) (picked bs m 0 (take (get_or s.made.reach l 0) (listed s.made.records))))) c.len-len.ensures c.len-len.ensures in
    record {
      told = λ le notes formed fits. sum ∙ mini_told K L o area formed values n le fits s c.args._at notes;
      low = λ le notes suits formed fits t full begins.
          subst (λ (r : g.row.C.Denot). K.at_most r (cost K p t) ≡ true) (sym (sum ∙ mini_told K L o area formed values n le fits s c.args._at notes))
          (admissible L p (shaped p formed) (mini_bucket_floor K s.width p) (mini_bucket_climbs L p (shaped p formed) s.width) (given K L o area formed values n le) t fits.0 full begins);
    }
