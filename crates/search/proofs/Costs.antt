-- What the cells of a full prefix hold together is the prefix's cost.
use Rattle.std.proofs.Common.{◌≡◌, ℕ, ◌<◌, true, List, [], ◌∷◌, map, length, get_or, take, sym, refl, ap, ◌∙◌, subst, ap₂, arith}
use Rattle.std.proofs.lemmas.List.{length-map, take_all}
use Rattle.costs.specs.Structures.{Structure, total}
use Rattle.variables.specs.Lists.{has}
use Rattle.variables.specs.Assignments.{of, along}
use Rattle.problems.specs.Records.{Placed, held, function_in}
use Rattle.problems.specs.Outlines.{Outline, problem}
use Rattle.problems.proofs.Bounds.{held_there}
use Rattle.floors.specs.Settings.{Formed, Fits, costs_at}
use Rattle.floors.specs.Shapes.{shaped}
use Rattle.floors.specs.Scopes.{along_take, cost_agree, Within, within_head, within_tail}
use Rattle.floors.specs.SettingsLemmas.{along_ranged}
use Rattle.floors.specs.Covers.{covered}
use Rattle.search.specs.Searches.{path_cost}

along_all : (values order : List ℕ) (v : ℕ) → has order v ≡ true → along order (map (of values) order) v ≡ of values v
along_all values order v h =
    let n = length order in
    let all : take n order ≡ order = take_all n order (omega arith) in
    let whole : take n (map (of values) order) ≡ map (of values) order = take_all n (map (of values) order) (omega (arith, length-map order (of values))) in
    ap (λ xs. along order xs v) (sym whole) ∙ along_take (of values) order n v (ap (λ vs. has vs v) all ∙ h)

module _ {C : Type 0} (K : Structure C) (o : Outline) (area : List C) (formed : Formed (problem o area)) (values : List ℕ) (fits : Fits (problem o area) (map (of values) o.order)) where
  held_all : (fs : List Placed) → Within (λ v. has o.order v ≡ true) (map (function_in o.sizes area) fs)
      → total K (map (held K o.sizes area (of values)) fs) ≡ costs_at K o.sizes (along o.order (map (of values) o.order)) (map (function_in o.sizes area) fs)
  held_all [] inside = refl
  held_all (f ∷ fs) inside =
      let p = problem o area in
      let y : List ℕ = map (of values) o.order in
      let own = within_head _ (function_in o.sizes area f) (map (function_in o.sizes area) fs) inside in
      let later = held_all fs (within_tail _ (function_in o.sizes area f) (map (function_in o.sizes area) fs) inside) in
      let ranged : (v : ℕ) → has f.scope v ≡ true → of values v < get_or o.sizes v 0 =
      λ v h. subst (λ c. c < get_or o.sizes v 0) (along_all values o.order v (own v h)) (along_ranged p (shaped p formed) y fits v (own v h)) in
      ap₂ K.combined
      (held_there K o.sizes area f (of values) ranged ∙ cost_agree K o.sizes (function_in o.sizes area f) (of values) (along o.order y) (λ v h. sym (along_all values o.order v (own v h))))
      later

  pub full_cost : total K (map (held K o.sizes area (of values)) o.functions) ≡ path_cost K (problem o area) (map (of values) o.order)
  full_cost = let p = problem o area in held_all o.functions (covered p (shaped p formed))
