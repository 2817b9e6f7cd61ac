-- Where tables lie.
use Rattle.std.specs.Prelude.{ℕ, ◌+◌, ◌≤◌, List}
use Rattle.std.specs.List.{AllByRecursion}
use Rattle.variables.specs.Assignments.{cells}
use Rattle.problems.specs.Records.{Placed}

-- the tables end before a cell
abbrev pub Below : List ℕ → ℕ → List Placed → Type 0
Below sizes end fs = AllByRecursion (λ (f : Placed). f.start + cells sizes f.scope ≤ end) fs
