use Rattle.std.proofs.Common.{◌≡◌, ℕ, length, take, drop}
use Rattle.variables.specs.Assignments.{of, along}
use Rattle.variables.specs.Records.{sizes_of, scope_of, values_of}
use Rattle.variables.specs.Rules.{fits}
use Rattle.variables.proofs.plain.Scope.setting.Given as goal

-- the values so far are in the setting, and it is up to the others whether the tuple fits
abbrev pub invariant-loop-k : goal.invariant-loop-k
invariant-loop-k l =
    (length (scope_of l.self) ≡ length l.tuple) ×
    (fits (sizes_of l.sizes) (drop l.k (scope_of l.self)) (drop l.k l.tuple) ≡ fits (sizes_of l.sizes) (scope_of l.self) l.tuple) ×
    ((v : ℕ) → of (values_of l.setting) v ≡ along (take l.k (scope_of l.self)) (take l.k l.tuple) v)
