-- Settings, prefixes and the values that variables may take.
use Rattle.std.specs.Prelude.{◌≡◌, ℕ, zero, suc, ◌<◌, ◌≤◌, Bool, true, cond, List, [], ◌∷◌, map, length, take, ◌==◌, slice_index}
use Rattle.std.specs.List.{AllByRecursion}
use Rattle.costs.specs.Structures.{Structure, total}
use Rattle.variables.specs.Assignments.{Assignment, cells, of}
use Rattle.problems.specs.Problems.{Function, Problem, cost_at}
use Rattle.variables.specs.Rules.{domains, proper, is_order}

-- one value changed
abbrev pub assign : Assignment → ℕ → ℕ → Assignment
assign a v c = λ u. cond (u == v) c (a u)

-- n numbers from one on
abbrev pub upto : ℕ → ℕ → List ℕ
upto from zero = []
upto from (suc n) = from ∷ upto (suc from) n

-- the values that a variable may take
abbrev pub values : List ℕ → ℕ → List ℕ
values sizes v = upto 0 (slice_index sizes v)

-- what passes a test
abbrev pub kept : {A : Type 0} → (A → Bool) → List A → List A
kept p [] = []
kept p (x ∷ xs) = cond (p x) (x ∷ kept p xs) (kept p xs)

-- what some functions cost together
abbrev pub costs_at : {C : Type 0} → Structure C → List ℕ → Assignment → List (Function C) → C
costs_at K sizes a fs = total K (map (cost_at K sizes a) fs)

-- a setting's values along the order
abbrev pub in_order : List ℕ → List ℕ → List ℕ
in_order order s = map (of s) order

-- x gives values to the first variables of the order, and s begins with them
abbrev pub Begins : {C : Type 0} → Problem C → List ℕ → List ℕ → Type 0
Begins p x s = take (length x) (in_order p.order s) ≡ x

-- x gives each of the first variables of the order a value that it may take
abbrev pub Fits : {C : Type 0} → Problem C → List ℕ → Type 0
Fits p x = (length x ≤ length p.order) × ((i : ℕ) → i < length x → slice_index x i < slice_index p.sizes (slice_index p.order i))

-- every variable has a domain, the order names each once, and every function has a proper scope and a cell for each tuple
pub record Formed {C : Type 0} (p : Problem C) : Type 0 where
  pub sized : domains p.sizes ≡ true
  pub ordered : is_order (length p.sizes) p.order ≡ true
  pub scoped : AllByRecursion (λ f. proper (length p.sizes) f.scope ≡ true) p.functions
  pub tabled : AllByRecursion (λ f. length f.table ≡ cells p.sizes f.scope) p.functions
