use Rattle.std.proofs.Common.{length}
use Rattle.variables.specs.Records.{sizes_of, values_of}
use Rattle.problems.specs.Records.{held, placed_of}
use Rattle.floors.specs.Sources.{given_of}
use Rattle.floors.proofs.Leasts.{Onward}
use Rattle.floors.proofs.plain.Given.+least.Given as goal

-- one variable less at each call
abbrev pub decreases-least : goal.decreases-least
decreases-least g l = length l.variables.now

abbrev pub invariant-loop-value : goal.invariant-loop-value
invariant-loop-value g l =
    Onward g.met.C.Cost.lawful (sizes_of l.sizes) (given_of l.self) (λ a. held g.C.Cost.structure (sizes_of l.sizes) l.area a (placed_of l.function)) l.variables
    (values_of l.setting) l.rest l.variable l.least l.value
