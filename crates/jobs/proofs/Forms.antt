-- A job that has an order is a formed problem, and writes to other cells than the tables' leave it as it is.
use Rattle.std.proofs.Common.{◌≡◌, ℕ, suc, ◌+◌, ◌<◌, ◌≤◌, true, eqb, ltb, List, [], ◌∷◌, map, length, get_or, take, drop, set, refl, ap, arith}
use Rattle.std.specs.List.{AllByRecursion}
use Rattle.std.proofs.lemmas.List.{length-take, length-take-le, length-drop, get_or-take, drop-set-lt}
use Rattle.std.proofs.lemmas.Bool.{and_parts, and_from, eqb-true, le-leb, ltb-true}
use Rattle.variables.specs.declared.plain.Sizes.{Sizes}
use Rattle.problems.specs.declared.shape.Shape.{Shape}
use Rattle.variables.specs.Lists.{known}
use Rattle.variables.specs.Assignments.{cells}
use Rattle.problems.specs.Problems.{Function, Problem}
use Rattle.variables.specs.Rules.{domains, proper, is_order}
use Rattle.variables.specs.Records.{sizes_of}
use Rattle.problems.specs.Records.{Placed, function_in, laid_from, all_proper}
use Rattle.problems.specs.Outlines.{outline, problem}
use Rattle.problems.proofs.Tables.{same_below, same_above, laid_end}
use Rattle.floors.specs.Settings.{Formed, Fits}
use Rattle.search.specs.Searches.{size_at}

all_domains : (sizes : List ℕ) → ((v : ℕ) → v < length sizes → (0 < get_or sizes v 0) × (get_or sizes v 0 ≤ 16)) → domains sizes ≡ true
all_domains [] h = refl
all_domains (k ∷ sizes) h =
    let first = h 0 (omega arith) in
    and_from _ _ (and_from _ _ (le-leb 1 k (omega (arith, first.0))) (le-leb k 16 (omega (arith, first.1)))) (all_domains sizes (λ v l. h (suc v) (omega arith)))

pub some_value : (s : Sizes) (v : ℕ) → v < length (sizes_of s) → 0 < get_or (sizes_of s) v 0
some_value s v l =
    let low : v < s.len = omega (arith, length-take s.len s.sizes) in
    omega (arith, get_or-take s.len s.sizes v 0 low, s.some v low)

has_domains : (s : Sizes) → domains (sizes_of s) ≡ true
has_domains s =
    all_domains (sizes_of s) (λ v l.
    let low : v < s.len = omega (arith, length-take s.len s.sizes) in
    (some_value s v l, omega (arith, get_or-take s.len s.sizes v 0 low, s.small v)))

-- the first variable of an order has a value
pub first_size : (s : Sizes) (order : List ℕ) → 1 ≤ length order → known (length (sizes_of s)) order ≡ true → 0 < size_at (sizes_of s) order 0
first_size s [] some h = absurd (omega arith)
first_size s (v ∷ order) some h = some_value s v (ltb-true v (length (sizes_of s)) (and_parts (ltb v (length (sizes_of s))) _ h).0)

module _ {C : Type 0} (sizes : List ℕ) (area : List C) where
  proper_all : (n : ℕ) (fs : List Placed) → all_proper n fs ≡ true → AllByRecursion (λ (f : Function C). proper n f.scope ≡ true) (map (function_in sizes area) fs)
  proper_all n [] h = tt
  proper_all n (f ∷ fs) h = let both = and_parts (proper n f.scope) _ h in (both.0, proper_all n fs both.1)

  tabled_all : (from to : ℕ) (fs : List Placed) → laid_from sizes from fs to ≡ true → to ≤ length area
      → AllByRecursion (λ (f : Function C). length f.table ≡ cells sizes f.scope) (map (function_in sizes area) fs)
  tabled_all from to [] h room = tt
  tabled_all from to (f ∷ fs) h room =
      let both = and_parts (eqb f.start from) _ h in
      let there = eqb-true f.start from both.0 in
      let end = laid_end sizes (from + cells sizes f.scope) to fs both.1 in
      (length-take-le (cells sizes f.scope) (drop f.start area) (omega (arith, length-drop f.start area)), tabled_all (from + cells sizes f.scope) to fs both.1 room)

-- tables that lie in the area have a cell for each tuple
pub formed : {C : Type 0} (shape : Shape) (area : List C) → is_order (length (outline shape).sizes) (outline shape).order ≡ true → (outline shape).used ≤ length area
    → Formed (problem (outline shape) area)
formed shape area order room = record {
  sized = has_domains shape.sizes;
  ordered = order;
  scoped = proper_all (outline shape).sizes area (length (outline shape).sizes) (outline shape).functions shape.scoped;
  tabled = tabled_all (outline shape).sizes area 2 (outline shape).used (outline shape).functions shape.laid room;
}

pub none_fits : {C : Type 0} (p : Problem C) → Fits p []
none_fits p = (omega arith, λ i l. absurd (omega arith))

-- the two cells before the tables
pub before_tables : (shape : Shape) → 2 ≤ (outline shape).used
before_tables shape = laid_end (outline shape).sizes 2 (outline shape).used (outline shape).functions shape.laid

module _ {C : Type 0} (shape : Shape) (order : List ℕ) (area : List C) where
  abbrev there : List C → Problem C
  there cells = record { sizes = (outline shape).sizes; functions = map (function_in (outline shape).sizes cells) (outline shape).functions; order = order }

  -- a write before the tables
  pub write_before : (k : ℕ) (c : C) → k < 2 → there (set area k c) ≡ there area
  write_before k c low =
      ap (λ (fs : List (Function C)). record { sizes = (outline shape).sizes; functions = fs; order = order })
      (same_above (outline shape).sizes area (set area k c) 2 (λ a h. drop-set-lt a area k c (omega arith)) 2 (outline shape).used (outline shape).functions shape.laid (omega arith))

  -- writes behind the tables
  pub write_behind : (area' : List C) → take (outline shape).used area' ≡ take (outline shape).used area → there area' ≡ there area
  write_behind area' same =
      ap (λ (fs : List (Function C)). record { sizes = (outline shape).sizes; functions = fs; order = order })
      (same_below (outline shape).sizes area area' (outline shape).used same 2 (outline shape).used (outline shape).functions shape.laid (omega arith))
