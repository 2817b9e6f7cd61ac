-- What a search is for: the best setting, or that there is none.
use Rattle.std.specs.Prelude.{◌≡◌, ℕ, suc, ◌*◌, Bool, true, false, ◌&&◌, ◌||◌, List, [], ◌∷◌, map, length, ◌==◌, nat_lt, slice_index}
use Rattle.costs.specs.Structures.{Structure, Same, cheaper}
use Rattle.variables.specs.Assignments.{Full, along}
use Rattle.problems.specs.Problems.{Problem, cost}
use Rattle.floors.specs.Settings.{in_order, upto}

-- the smaller value where two lists first differ
abbrev pub earlier : List ℕ → List ℕ → Bool
earlier [] ys = false
earlier (x ∷ xs) [] = false
earlier (x ∷ xs) (y ∷ ys) = nat_lt x y || (x == y && earlier xs ys)

-- the setting, by variable number, that full values along the order give
abbrev pub setting : {C : Type 0} → Problem C → List ℕ → List ℕ
setting p y = map (along p.order y) (upto 0 (length p.sizes))

-- how many prefixes of one variable and more there are
abbrev pub prefixes : List ℕ → List ℕ → ℕ
prefixes sizes [] = 0
prefixes sizes (v ∷ order) = slice_index sizes v * suc (prefixes sizes order)

-- a setting that is cheapest, and earliest among the cheapest, with its cost, below the limit
pub record Best {C : Type 0} (K : Structure C) (p : Problem C) (limit shown : C) (s : List ℕ) : Type 0 where
  pub full : Full p.sizes s
  pub its_cost : Same K shown (cost K p s)
  pub below : cheaper K shown limit ≡ true
  pub cheapest : (t : List ℕ) → Full p.sizes t → cheaper K (cost K p t) shown ≡ false
  pub earliest : (t : List ℕ) → Full p.sizes t → Same K (cost K p t) shown → earlier (in_order p.order t) (in_order p.order s) ≡ false

-- no full setting is below a bound
abbrev pub NothingBelow : {C : Type 0} → Structure C → Problem C → C → Type 0
NothingBelow K p bound = (t : List ℕ) → Full p.sizes t → cheaper K (cost K p t) bound ≡ false
