use Rattle.std.proofs.Common.{◌≡◌, ℕ, ◌+◌, ◌≤◌, true, map, length, sym, ap, ◌∙◌, subst, ap₂, arith}
use Rattle.std.proofs.lemmas.List.{length-take}
use Rattle.costs.proofs.Totals.{folded}
use Rattle.variables.specs.declared.plain.Setting.{Setting}
use Rattle.variables.specs.declared.plain.Sizes.{Sizes}
use Rattle.problems.specs.Outlines.{outline, problem}
use Rattle.variables.specs.Assignments.{of}
use Rattle.problems.specs.Problems.{cost}
use Rattle.variables.specs.Records.{sizes_of, values_of}
use Rattle.problems.specs.Records.{nth, placed_of}
use Rattle.problems.proofs.Placements.{mapped_length, mapped_nth}
use Rattle.floors.specs.declared.plain.Given.{Given}
use Rattle.floors.specs.Floors.{first_choice_floor}
use Rattle.floors.specs.Sources.{given_of, least_held, least_held_by}
use Rattle.floors.specs.Shapes.{shaped}
use Rattle.floors.specs.Climbs.{admissible}
use Rattle.floors.specs.Admissions.{first_choice_climbs}
use Rattle.floors.proofs.Paids.{given}
use Rattle.floors.proofs.FirstChoices.{rest, rest_next, rest_none, first_choice_told}
use Rattle.floors.proofs.first_choice.FirstChoiceFloorSource.floor.Goals as goal

pub loop-function-preserved : goal.loop-function-preserved
loop-function-preserved g c =
    let K = g.C.Cost.structure in
    let o = outline c.args.shape.now in
    let area = c.args.area.now in
    let known : Given = record { places = c.args.self.now.places; len = c.len.result } in
    let a = of (values_of c.args.prefix.now.setting) in
    let k = c.loop-function.function-index in
    let here : c.choice.result ≡ least_held_by K o.sizes area (given_of known) a (nth o.functions k) =
    c.choice.ensures
    ∙ ap₂ (λ (z : Sizes) (s : Setting). least_held K (sizes_of z) area (given_of known) (of (values_of s)) (placed_of c.function-item.result)) c.domains.ensures c.setting.ensures
    ∙ sym (ap (least_held_by K o.sizes area (given_of known) a) (mapped_nth placed_of c.functions-function-items.result.now o.functions c.functions-function-items.ensures.all k c.function-item.result c.loop-function-test.true c.function-item.is)) in
    let long = mapped_length placed_of c.functions-function-items.result.now o.functions c.functions-function-items.ensures.all in
    ap (λ (sum : g.row.C.Denot). rest K o.sizes area (given_of known) a o.functions sum (k + 1)) c.combine-sum.ensures
    ∙ rest_next K o.sizes area (given_of known) a o.functions c.loop-function.sum c.choice.result k _ (omega arith) here c.loop-function.invariant

pub returns : goal.returns
returns g c =
    let K = g.C.Cost.structure in
    let L = g.met.C.Cost.lawful in
    let o = outline c.args.shape.now in
    let sizes = c.args.shape.now.sizes in
    let area = c.args.area.now in
    let p = problem o area in
    let places = c.args.self.now.places in
    let n = c.args.prefix.now.len in
    let values = values_of c.args.prefix.now.setting in
    let items = mapped_length placed_of c.functions-function-items.result.now o.functions c.functions-function-items.ensures.all in
    let long : length o.sizes ≤ length places.places = omega (arith, length-take sizes.len sizes.sizes, sizes.few, places.long) in
    let sum : c.loop-function.sum ≡ folded K K.neutral (map (least_held K o.sizes area (given_of (record { places = places; len = n })) (of values)) o.functions) =
    rest_none K o.sizes area (given_of (record { places = places; len = c.len.result })) (of values) o.functions c.loop-function.sum c.loop-function.function-index _ (omega arith) c.loop-function.invariant
    ∙ ap (λ (m : ℕ). folded K K.neutral (map (least_held K o.sizes area (given_of (record { places = places; len = m })) (of values)) o.functions)) c.len.ensures in
    record {
      told = λ le noted formed fits. sum ∙ first_choice_told K L o area formed values n le fits places.places long (λ v l. noted v (omega (arith, places.long)));
      low = λ le noted suits formed fits t full begins.
          subst (λ (r : g.row.C.Denot). K.at_most r (cost K p t) ≡ true)
          (sym (sum ∙ first_choice_told K L o area formed values n le fits places.places long (λ v l. noted v (omega (arith, places.long)))))
          (admissible L p (shaped p formed) (first_choice_floor K p) (first_choice_climbs L p (shaped p formed)) (given K L o area formed values n le) t fits.0 full begins);
    }
