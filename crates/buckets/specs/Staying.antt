-- Tables stand while their cells stand.
use Rattle.std.proofs.Common.{◌≡◌, ℕ, ◌+◌, ◌-◌, ◌<◌, ◌≤◌, min, true, eqb, List, [], ◌∷◌, map, length, get_or, take, drop, sym, refl, ap, ◌∙◌, ap₂, arith}
use Rattle.std.proofs.lemmas.List.{same_lists, length-take, length-drop, get_or-take, get_or-drop}
use Rattle.std.proofs.lemmas.Bool.{and_parts, eqb-true, cond-true}
use Rattle.costs.specs.Structures.{Structure}
use Rattle.variables.specs.Assignments.{cells}
use Rattle.problems.specs.Problems.{Function}
use Rattle.problems.specs.Records.{Placed, function_in, laid_from}
use Rattle.problems.specs.Outlines.{Outline}
use Rattle.floors.specs.Rules.{frame}
use Rattle.buckets.specs.declared.plain.MiniBucket.{MiniBucket}
use Rattle.buckets.specs.Made.{scopes_made, all_cells}
use Rattle.buckets.specs.Processed.{scopes_of}
use Rattle.buckets.specs.Sources.{Kept, mini_room, mini_suits, all_placed}
use Rattle.buckets.specs.Laying.{placed_laid, laid_ends}

module _ {C : Type 0} where
  -- a part of two areas that agree cell by cell there
  part_same : (xs ys : List C) (a n from to : ℕ) → length ys ≡ length xs → ((k : ℕ) (d : C) → from ≤ k → k < to → get_or ys k d ≡ get_or xs k d) → from ≤ a → a + n ≤ to → take n (drop a ys) ≡ take n (drop a xs)
  part_same xs ys a n from to long same low high =
      let ly : length (take n (drop a ys)) ≡ min n (length ys - a) = length-take n (drop a ys) ∙ ap (min n) (length-drop a ys) in
      let lx : length (take n (drop a xs)) ≡ min n (length xs - a) = length-take n (drop a xs) ∙ ap (min n) (length-drop a xs) in
      same_lists (take n (drop a ys)) (take n (drop a xs)) (ly ∙ ap (λ m. min n (m - a)) long ∙ sym lx)
      (λ k d h.
      let few : k < n = omega (arith, ly) in
      get_or-take n (drop a ys) k d few ∙ get_or-drop a ys k d ∙ same (a + k) d (omega arith) (omega arith) ∙ sym (get_or-take n (drop a xs) k d few ∙ get_or-drop a xs k d))

  laid_same : (sizes : List ℕ) (area area' : List C) (low from to : ℕ) (fs : List Placed) → length area' ≡ length area → ((k : ℕ) (d : C) → low ≤ k → k < to → get_or area' k d ≡ get_or area k d) → low ≤ from
      → laid_from sizes from fs to ≡ true → map (function_in sizes area') fs ≡ map (function_in sizes area) fs
  laid_same sizes area area' low from to [] long same l h = refl
  laid_same sizes area area' low from to (f ∷ fs) long same l h =
      let both = and_parts (eqb f.start from) _ h in
      let at = eqb-true f.start from both.0 in
      let end = laid_ends sizes (from + cells sizes f.scope) to fs both.1 in
      ap₂ (λ (t : List C) (gs : List (Function C)). record { scope = f.scope; table = t } ∷ gs)
      (part_same area area' f.start (cells sizes f.scope) low to long same (omega arith) (omega arith))
      (laid_same sizes area area' low (from + cells sizes f.scope) to fs long same (omega arith) both.1)

  pub tables_stay : (K : Structure C) (s : MiniBucket) (o : Outline) (area area' : List C) (at : ℕ) → length area' ≡ length area
      → ((k : ℕ) (d : C) → at ≤ k → k < at + mini_room s.width (frame o) → get_or area' k d ≡ get_or area k d) → Kept K s o area at
      → map (function_in o.sizes area') (all_placed s.width o at) ≡ map (function_in o.sizes area) (all_placed s.width o at)
  tables_stay K s o area area' at long same kept =
      let total : ℕ = all_cells o.sizes (scopes_made o.order s.width (scopes_of o.functions) (length o.order)) in
      let room : mini_room s.width (frame o) ≡ total = cond-true (mini_suits s.width (frame o)) total 0 kept.suited in
      laid_same o.sizes area area' at at (at + total) (all_placed s.width o at) long (λ k d l h. same k d l (omega (arith, room))) (omega arith)
      (placed_laid o.sizes o.order s.width (scopes_of o.functions) at (length o.order))
