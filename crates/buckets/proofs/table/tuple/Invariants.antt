use Rattle.std.proofs.Common.{◌≡◌, ℕ, ◌<◌, ◌≤◌, true, false, length, get_or, take, drop}
use Rattle.variables.specs.Lists.{has}
use Rattle.variables.specs.Assignments.{of, cell_from}
use Rattle.variables.specs.Records.{sizes_of, scope_of, values_of}
use Rattle.buckets.proofs.table.tuple.Given as goal

-- the variables still to come are the scope's first; what is left and the values so far lead on to the cell
abbrev pub invariant-loop-v : goal.invariant-loop-v
invariant-loop-v l =
    (l.v-iterator.iter.rest.now ≡ take (length l.v-iterator.iter.rest.now) (scope_of l.scope)) ×
    (length l.v-iterator.iter.rest.now ≤ length (scope_of l.scope)) ×
    (cell_from (sizes_of l.sizes) l.left (drop (length l.v-iterator.iter.rest.now) (scope_of l.scope)) (of (values_of l.setting)) ≡ l.cell) ×
    ((v : ℕ) → has (drop (length l.v-iterator.iter.rest.now) (scope_of l.scope)) v ≡ true → of (values_of l.setting) v < get_or (sizes_of l.sizes) v 0) ×
    ((v : ℕ) → has (scope_of l.scope) v ≡ false → of (values_of l.setting) v ≡ 0)
