use Rattle.std.proofs.Common.{◌≡◌, true, length, take}
use Rattle.variables.specs.Records.{sizes_of, scope_of}
use Rattle.variables.specs.Rules.{proper}
use Rattle.variables.proofs.plain.Scope.of.Given as goal

-- the variables so far are in the scope, and they are a proper one
abbrev pub invariant-loop-variable : goal.invariant-loop-variable
invariant-loop-variable l =
    (scope_of l.scope ≡ take l.variable-index l.variables) ×
    (proper (length (sizes_of l.sizes)) (take l.variable-index l.variables) ≡ true)
