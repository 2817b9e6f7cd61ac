use Rattle.std.proofs.Common.{◌≡◌, ◌+◌, ◌*◌, ◌^◌, ◌≤◌, drop}
use Rattle.variables.specs.Assignments.{of, cell_from}
use Rattle.variables.specs.Records.{sizes_of, scope_of, values_of}
use Rattle.variables.proofs.plain.Scope.cell.Given as goal

-- the rest of the scope leads on from here to the tuple's cell
abbrev pub invariant-loop-v : goal.invariant-loop-v
invariant-loop-v l =
    (cell_from (sizes_of l.sizes) l.at (drop l.v-index (scope_of l.self)) (of (values_of l.setting))
    ≡ cell_from (sizes_of l.sizes) 0 (scope_of l.self) (of (values_of l.setting))) ×
    (l.at + 17 ≤ 17 * 16 ^ l.v-index)
