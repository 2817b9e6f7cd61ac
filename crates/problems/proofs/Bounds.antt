-- A tuple's cell lies in its table, and a table's cell in the area.
use Rattle.std.proofs.Common.{◌≡◌, ℕ, suc, ◌+◌, ◌*◌, ◌<◌, true, eqb, List, [], ◌∷◌, map, length, get_or, drop, sym, refl, ◌∙◌, add_assoc, mul-le-mul_right, mul_assoc, suc-mul, add-mul, zero-mul, mul-one, arith}
use Rattle.std.proofs.lemmas.List.{get_or-take, get_or-drop}
use Rattle.std.proofs.lemmas.Bool.{and_parts, or_right, or_left, eq-eqb}
use Rattle.std.proofs.lemmas.Bool.Decides.{nat_tests}
use Rattle.costs.specs.Structures.{Structure}
use Rattle.variables.specs.Lists.{has, known}
use Rattle.variables.specs.Assignments.{Assignment, along, cell_from, cells, of, Full}
use Rattle.problems.specs.Problems.{cost_at}
use Rattle.variables.specs.Rules.{fits, proper}
use Rattle.problems.specs.Records.{Placed, function_in, held, all_proper}

module _ (sizes : List ℕ) where
  -- the cell of a tuple, its first variable's part first
  abbrev cell : List ℕ → Assignment → ℕ
  cell [] a = 0
  cell (v ∷ vs) a = a v * cells sizes vs + cell vs a

  horner : (vs : List ℕ) (at : ℕ) (a : Assignment) → cell_from sizes at vs a ≡ at * cells sizes vs + cell vs a
  horner [] at a = simp mul-one (omega arith)
  horner (v ∷ vs) at a = horner vs (at * get_or sizes v 0 + a v) a ∙ simp (add-mul, mul_assoc, add_assoc)

  -- every variable of a scope has a value of its domain
  abbrev pub Ranged : List ℕ → Assignment → Type 0
  Ranged vs a = (v : ℕ) → has vs v ≡ true → a v < get_or sizes v 0

  below : (vs : List ℕ) (a : Assignment) → Ranged vs a → cell vs a < cells sizes vs
  below [] a h = omega arith
  below (v ∷ vs) a h =
      let here : a v < get_or sizes v 0 = h v (or_left (eqb v v) (has vs v) (eq-eqb v v refl)) in
      omega (arith, below vs a (λ u k. h u (or_right (eqb v u) (has vs u) k)), suc-mul (a v) (cells sizes vs), mul-le-mul_right {m = suc (a v)} {n = get_or sizes v 0} (cells sizes vs) here)

  -- a tuple of its domains' values has a cell in the table
  pub cell_below : (vs : List ℕ) (a : Assignment) → Ranged vs a → cell_from sizes 0 vs a < cells sizes vs
  cell_below vs a h = omega (arith, horner vs 0 a, zero-mul (cells sizes vs), below vs a h)

-- a tuple that fits gives each variable of the scope a value of its domain
pub fits_ranged : (sizes vs cs : List ℕ) → fits sizes vs cs ≡ true → Ranged sizes vs (along vs cs)
fits_ranged sizes [] [] h v k = grind arith
fits_ranged sizes [] (c ∷ cs) h v k = grind arith
fits_ranged sizes (u ∷ vs) [] h v k = grind arith
fits_ranged sizes (u ∷ vs) (c ∷ cs) h v k = let ih = fits_ranged sizes vs cs in grind (arith, nat_tests, ih)

known_below : (n : ℕ) (vs : List ℕ) (v : ℕ) → known n vs ≡ true → has vs v ≡ true → v < n
known_below n [] v h k = grind arith
known_below n (u ∷ vs) v h k = let ih = known_below n vs v in grind (arith, nat_tests)

-- a full setting gives the variables of every proper scope values of their domains
pub full_ranged : (sizes s vs : List ℕ) → Full sizes s → proper (length sizes) vs ≡ true → Ranged sizes vs (of s)
full_ranged sizes s vs full p v k =
    full.1 v (known_below (length sizes) vs v (and_parts (known (length sizes) vs) _ (and_parts _ _ p).1).0 k)

module _ {C : Type 0} (K : Structure C) (sizes : List ℕ) (area : List C) where
  -- the cell of the area is the cell of the function's table
  pub held_there : (f : Placed) (a : Assignment) → Ranged sizes f.scope a → held K sizes area a f ≡ cost_at K sizes a (function_in sizes area f)
  held_there f a h =
      let k = cell_from sizes 0 f.scope a in
      let low : k < cells sizes f.scope = cell_below sizes f.scope a h in
      sym (get_or-take (cells sizes f.scope) (drop f.start area) k K.neutral low ∙ get_or-drop f.start area k K.neutral)

  -- and so for all functions of a job, at a full setting
  pub all_there : (s : List ℕ) → Full sizes s → (fs : List Placed) → all_proper (length sizes) fs ≡ true
      → map (held K sizes area (of s)) fs ≡ map (cost_at K sizes (of s)) (map (function_in sizes area) fs)
  all_there s full [] p = refl
  all_there s full (f ∷ fs) p =
      let both = and_parts (proper (length sizes) f.scope) _ p in
      let here = held_there f (of s) (full_ranged sizes s f.scope full both.0) in
      let ih = all_there s full fs both.1 in
      cc
