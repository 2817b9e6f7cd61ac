-- What the records of functions say.
use Rattle.std.specs.Prelude.{ℕ, zero, suc, ◌+◌, Bool, true, ◌&&◌, List, [], ◌∷◌, map, take, drop, Some, None, Option, ◌==◌, slice_index_or}
use Rattle.costs.specs.Structures.{Structure}
use Rattle.variables.specs.Assignments.{Assignment, cell_from, cells}
use Rattle.variables.specs.Records.{scope_of}
use Rattle.variables.specs.Rules.{proper}
use Rattle.lists.specs.declared.plain.ShortList.{ShortList}
use Rattle.lists.specs.Lists.{items_of}
use Rattle.problems.specs.declared.plain.TableRecord.{TableRecord}
use Rattle.problems.specs.Problems.{Function}

-- what a record says: its scope, the bucket that it came from, and the cell at which its table starts
pub record Placed : Type 0 where
  pub scope : List ℕ
  pub origin : ℕ
  pub start : ℕ

abbrev pub placed_of : {END : ℕ} → TableRecord END → Placed
placed_of r = record { scope = scope_of r.scope; origin = r.origin; start = r.start }

-- the records in the order of their numbers
abbrev pub placed : {END N : ℕ} → ShortList (TableRecord END) N → List Placed
placed rs = map placed_of (items_of rs)

-- an item of a list, if there is one at that place
abbrev pub nth : {A : Type 0} → List A → ℕ → Option A
nth [] k = None
nth (x ∷ xs) zero = Some x
nth (x ∷ xs) (suc k) = nth xs k

-- the function that a record describes: its table is the cells from its start on, one for each tuple
abbrev pub function_in : {C : Type 0} → List ℕ → List C → Placed → Function C
function_in sizes area f = record { scope = f.scope; table = take (cells sizes f.scope) (drop f.start area) }

-- the content of the cell that a record gives an assignment
abbrev pub held : {C : Type 0} → Structure C → List ℕ → List C → Assignment → Placed → C
held K sizes area a f = slice_index_or area (f.start + cell_from sizes 0 f.scope a) K.neutral

-- the same of a record that may not be there
abbrev pub held_by : {C : Type 0} → Structure C → List ℕ → List C → Assignment → Option Placed → C
held_by K sizes area a None = K.neutral
held_by K sizes area a (Some f) = held K sizes area a f

-- tables lie from one cell to another, one behind the other without gaps
abbrev pub laid_from : List ℕ → ℕ → List Placed → ℕ → Bool
laid_from sizes from [] to = from == to
laid_from sizes from (f ∷ fs) to = f.start == from && laid_from sizes (from + cells sizes f.scope) fs to

-- every scope is proper
abbrev pub all_proper : ℕ → List Placed → Bool
all_proper n [] = true
all_proper n (f ∷ fs) = proper n f.scope && all_proper n fs
