use Rattle.std.proofs.Common.{◌≡◌, ◌*◌, ◌^◌, ◌≤◌, drop}
use Rattle.variables.specs.Assignments.{cells}
use Rattle.variables.specs.Records.{sizes_of, scope_of}
use Rattle.variables.proofs.plain.Scope.table_cells.Given as goal

-- what is counted so far, times the cells over the rest of the scope
abbrev pub invariant-loop-v : goal.invariant-loop-v
invariant-loop-v l =
    (l.count * cells (sizes_of l.sizes) (drop l.v-index (scope_of l.self)) ≡ cells (sizes_of l.sizes) (scope_of l.self)) ×
    (l.count ≤ 16 ^ l.v-index)
