-- The rules of functions, as rows of the table of refusals.
use Rattle.std.specs.Prelude.{ℕ, ◌+◌, not, List, [], ◌∷◌, length, nat_le, nat_lt}
use Rattle.variables.specs.declared.refusal.Refusal.TheVariants.{Scope, Functions, Room}
use Rattle.variables.specs.Refusals.{Row}
use Rattle.variables.specs.Assignments.{cells}
use Rattle.variables.specs.Rules.{proper}

-- one function more
abbrev pub function_rows : ℕ → List Row
function_rows count = record { when = nat_le 64 count; refusal = Functions } ∷ []

-- a scope that is proper, for one of at most 64 functions, with room for its table
abbrev pub enter_rows : List ℕ → ℕ → ℕ → ℕ → List ℕ → List Row
enter_rows sizes count used room scope =
    record { when = not (proper (length sizes) scope); refusal = Scope } ∷
    record { when = nat_le 64 count; refusal = Functions } ∷
    record { when = nat_lt room (used + cells sizes scope); refusal = Room } ∷ []
