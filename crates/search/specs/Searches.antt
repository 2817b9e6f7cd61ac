-- Branch and bound over any floors.
use Rattle.std.specs.Prelude.{ℕ, zero, suc, Bool, true, false, cond, ◌&&◌, ◌||◌, List, [], ◌∷◌, reverse, length, Some, None, Option, ◌==◌, nat_lt, slice_index}
use Rattle.costs.specs.Structures.{Structure, cheaper}
use Rattle.variables.specs.Assignments.{along}
use Rattle.problems.specs.Problems.{Problem}
use Rattle.floors.specs.Settings.{costs_at}

-- where a search is: the prefix with its last value first, the value to try next, and the best full setting so far, along the order
pub record Spot : Type 0 where
  pub path : List ℕ
  pub next : ℕ
  pub incumbent : Option (List ℕ)

-- `bar` is what a full setting has to be cheaper than
pub record Search (C : Type 0) : Type 0 where
  pub spot : Spot
  pub bar : C

-- the empty prefix, value 0, no incumbent
abbrev pub start : Spot
start = record { path = []; next = 0; incumbent = None }

abbrev pub started : {C : Type 0} → C → Search C
started limit = record { spot = start; bar = limit }

-- the domain size of the d-th variable of the order, from 0
abbrev pub size_at : List ℕ → List ℕ → ℕ → ℕ
size_at sizes order d = slice_index sizes (slice_index order d)

-- the prefix is empty and the values of the first variable are used up
abbrev pub ended : List ℕ → List ℕ → Spot → Bool
ended sizes order s = length s.path == 0 && s.next == size_at sizes order 0

-- every value of the path is one of its variable's
abbrev pub fit : List ℕ → List ℕ → List ℕ → Bool
fit sizes order [] = true
fit sizes order (v ∷ path) = nat_lt v (size_at sizes order (length path)) && fit sizes order path

-- the prefix is shorter than the order and has usable values, and unless the search has ended the next value is one to try
abbrev pub steady : List ℕ → List ℕ → Spot → Bool
steady sizes order s =
    fit sizes order s.path && (nat_lt (length s.path) (length order) && (ended sizes order s || nat_lt s.next (size_at sizes order (length s.path))))

-- while the values of the next variable are used up, back to the variable before it
abbrev pub settled : List ℕ → List ℕ → List ℕ → ℕ → Option (List ℕ) → Spot
settled sizes order [] next best = record { path = []; next = next; incumbent = best }
settled sizes order (v ∷ path) next best =
    cond (next == size_at sizes order (suc (length path)))
    (settled sizes order path (suc v) best)
    (record { path = v ∷ path; next = next; incumbent = best })

-- the cost of a full prefix
abbrev pub path_cost : {C : Type 0} → Structure C → Problem C → List ℕ → C
path_cost K p y = costs_at K p.sizes (along p.order y) p.functions

-- one visit: the next value is tried
abbrev pub visited : {C : Type 0} → Structure C → Problem C → (List ℕ → C) → Search C → Search C
visited K p floor s =
    let path : List ℕ = s.spot.path in
    let next : ℕ = s.spot.next in
    let best : Option (List ℕ) = s.spot.incumbent in
    let y : List ℕ = reverse (next ∷ path) in
    cond (length y == length p.order)
    (cond (cheaper K (path_cost K p y) s.bar)
    (record { spot = settled p.sizes p.order path (suc next) (Some y); bar = path_cost K p y })
    (record { spot = settled p.sizes p.order path (suc next) best; bar = s.bar }))
    (cond (cheaper K (floor y) s.bar)
    (record { spot = record { path = next ∷ path; next = 0; incumbent = best }; bar = s.bar })
    (record { spot = settled p.sizes p.order path (suc next) best; bar = s.bar }))

pub record Ran (C : Type 0) : Type 0 where
  pub visits : ℕ
  pub search : Search C

-- at most k visits, fewer only if the search ends
abbrev pub ran : {C : Type 0} → Structure C → Problem C → (List ℕ → C) → ℕ → Search C → Ran C
ran K p floor zero s = record { visits = 0; search = s }
ran K p floor (suc k) s = elim (ended p.sizes p.order s.spot) [
  | true ↦ record { visits = 0; search = s }
  | false ↦ let r = ran K p floor k (visited K p floor s) in record { visits = suc r.visits; search = r.search }
]
