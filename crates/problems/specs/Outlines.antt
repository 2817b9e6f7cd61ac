-- What a job is apart from its cells, and the problem that it is with them.
use Rattle.std.specs.Prelude.{ℕ, ◌+◌, min, not, List, [], ◌∷◌, ◌++◌, map, length, Some, None, Option, nat_le}
use Rattle.problems.specs.declared.shape.Shape.{Shape}
use Rattle.variables.specs.declared.refusal.Refusal.TheVariants.{Function as Unknown, Tuple}
use Rattle.variables.specs.Refusals.{Row}
use Rattle.variables.specs.Rules.{fits}
use Rattle.problems.specs.Rules.{enter_rows}
use Rattle.variables.specs.Assignments.{along, cell_from, cells}
use Rattle.problems.specs.Problems.{Problem}
use Rattle.variables.specs.Records.{sizes_of, order_of}
use Rattle.problems.specs.Records.{Placed, placed, nth, function_in}

-- domain sizes, the order or none yet, the functions with their places, and the cells up to the tables' end
pub record Outline : Type 0 where
  pub sizes : List ℕ
  pub order : List ℕ
  pub functions : List Placed
  pub used : ℕ

abbrev pub outline : Shape → Outline
outline s = record { sizes = sizes_of s.sizes; order = order_of s.order; functions = placed s.functions; used = s.used }

-- no functions yet, and two cells used: the limit's and the best cost's
abbrev pub opened : List ℕ → Outline
opened sizes = record { sizes = sizes; order = []; functions = []; used = 2 }

-- an entered function comes after every bucket, and its table behind those that stand
abbrev pub entered : Outline → List ℕ → Outline
entered o scope = record {
  sizes = o.sizes;
  order = o.order;
  functions = o.functions ++ record { scope = scope; origin = 33; start = o.used } ∷ [];
  used = o.used + cells o.sizes scope;
}

abbrev pub ordered : Outline → List ℕ → Outline
ordered o order = record { sizes = o.sizes; order = order; functions = o.functions; used = o.used }

-- why a function is not entered in an area of so many cells, of which at most 16,384 count
abbrev pub entering : Outline → ℕ → List ℕ → List Row
entering o room scope = enter_rows o.sizes (length o.functions) o.used (min room 16384) scope

abbrev pub scope_in : Option Placed → List ℕ
scope_in None = []
scope_in (Some f) = f.scope

abbrev pub start_in : Option Placed → ℕ
start_in None = 0
start_in (Some f) = f.start

-- why a tuple of a function has no cell
abbrev pub amending : Outline → ℕ → List ℕ → List Row
amending o k tuple =
    record { when = nat_le (length o.functions) k; refusal = Unknown } ∷
    record { when = not (fits o.sizes (scope_in (nth o.functions k)) tuple); refusal = Tuple } ∷ []

-- the cell of the area that a function's tuple has
abbrev pub cell_of : Outline → ℕ → List ℕ → ℕ
cell_of o k tuple =
    let scope : List ℕ = scope_in (nth o.functions k) in
    start_in (nth o.functions k) + cell_from o.sizes 0 scope (along scope tuple)

-- the problem: each function's table is its cells of the area
abbrev pub problem : {C : Type 0} → Outline → List C → Problem C
problem o area = record { sizes = o.sizes; functions = map (function_in o.sizes area) o.functions; order = o.order }
