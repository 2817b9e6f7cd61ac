-- Problems: variables, cost functions, settings and their costs.
use Rattle.std.specs.Prelude.{ℕ, zero, suc, List, [], ◌∷◌, ◌++◌, map, replicate, slice_index_or, slice_set}
use Rattle.costs.specs.Structures.{Structure, total}
use Rattle.variables.specs.Assignments.{Assignment, along, cell_from, cells, of}

-- the variables that a function reads, and a cost for each tuple of their values
pub record Function (C : Type 0) : Type 0 where
  pub scope : List ℕ
  pub table : List C

-- the order names each variable once; a job in draft has none yet
pub record Problem (C : Type 0) : Type 0 where
  pub sizes : List ℕ
  pub functions : List (Function C)
  pub order : List ℕ

-- what one function costs there
abbrev pub cost_at : {C : Type 0} → Structure C → List ℕ → Assignment → Function C → C
cost_at K sizes a f = slice_index_or f.table (cell_from sizes 0 f.scope a) K.neutral

-- a setting's cost combines every function's cost there, or is neutral without functions
abbrev pub cost : {C : Type 0} → Structure C → Problem C → List ℕ → C
cost K p s = total K (map (cost_at K p.sizes (of s)) p.functions)

-- one function more, with one cost at every tuple
abbrev pub with_function : {C : Type 0} → Problem C → List ℕ → C → Problem C
with_function p scope c = record {
  sizes = p.sizes;
  functions = p.functions ++ record { scope = scope; table = replicate (cells p.sizes scope) c } ∷ [];
  order = p.order;
}

-- a function with one cost changed, that of a tuple
abbrev pub costing : {C : Type 0} → List ℕ → List ℕ → C → Function C → Function C
costing sizes tuple c f = record { scope = f.scope; table = slice_set f.table (cell_from sizes 0 f.scope (along f.scope tuple)) c }

-- a list with one item changed
abbrev pub changed : {A : Type 0} → (A → A) → ℕ → List A → List A
changed g k [] = []
changed g zero (x ∷ xs) = g x ∷ xs
changed g (suc k) (x ∷ xs) = x ∷ changed g k xs

-- function k with one cost changed, that of a tuple
abbrev pub with_cost : {C : Type 0} → Problem C → ℕ → List ℕ → C → Problem C
with_cost p k tuple c = record { sizes = p.sizes; functions = changed (costing p.sizes tuple c) k p.functions; order = p.order }
