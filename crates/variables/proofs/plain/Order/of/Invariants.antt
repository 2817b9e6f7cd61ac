use Rattle.std.proofs.Common.{◌≡◌, true, length, take}
use Rattle.variables.specs.Records.{sizes_of, order_of}
use Rattle.variables.specs.Rules.{chosen}
use Rattle.variables.proofs.plain.Order.of.Given as goal

-- the variables so far are in the order, and they are known and apart
abbrev pub invariant-loop-variable : goal.invariant-loop-variable
invariant-loop-variable l =
    (length l.variables ≡ length (sizes_of l.sizes)) ×
    (order_of l.order ≡ take l.variable-index l.variables) ×
    (chosen 32 (length (sizes_of l.sizes)) (take l.variable-index l.variables) ≡ true)
