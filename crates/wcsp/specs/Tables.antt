-- The table of a function in a text.
use Rattle.std.specs.Prelude.{ℕ, ◌+◌, List, [], ◌∷◌, ◌++◌, length, take, drop, replicate, slice_set}
use Rattle.variables.specs.Assignments.{along, cell_from, cells}
use Rattle.wcsp.specs.Layouts.{Listed, Entry}

-- a listed tuple's cost is written at its cell
abbrev pub amend : List ℕ → List ℕ → List ℕ → Listed → List ℕ
amend sizes scope table one = slice_set table (cell_from sizes 0 scope (along scope one.tuple)) one.cost

-- one tuple after the other, so that the later of two costs counts
abbrev pub amended : List ℕ → List ℕ → List ℕ → List Listed → List ℕ
amended sizes scope table [] = table
amended sizes scope table (one ∷ ls) = amended sizes scope (amend sizes scope table one) ls

-- the usual cost in every cell, and then the listed ones
abbrev pub table_of : List ℕ → Entry → List ℕ
table_of sizes e = amended sizes e.scope (replicate (cells sizes e.scope) e.usual) e.listed

-- an area with a table from a cell on
abbrev pub laid : List ℕ → ℕ → List ℕ → List ℕ
laid area at table = take at area ++ (table ++ drop (at + length table) area)
