use Rattle.std.proofs.Common.{◌≡◌, map}
use Rattle.costs.proofs.Totals.{folded}
use Rattle.problems.specs.Outlines.{outline}
use Rattle.variables.specs.Assignments.{of}
use Rattle.variables.specs.Records.{values_of}
use Rattle.floors.specs.Sources.{given_of, least_held}
use Rattle.floors.proofs.FirstChoices.{rest}
use Rattle.floors.proofs.first_choice.FirstChoiceFloorSource.floor.Given as goal

-- the functions still to come lead on to all of them
abbrev pub invariant-loop-function : goal.invariant-loop-function
invariant-loop-function g l =
    rest g.C.Cost.structure (outline l.shape).sizes l.area (given_of l.given) (of (values_of l.prefix.setting)) (outline l.shape).functions l.sum l.function-index
    ≡ folded g.C.Cost.structure g.C.Cost.structure.neutral
    (map (least_held g.C.Cost.structure (outline l.shape).sizes l.area (given_of l.given) (of (values_of l.prefix.setting))) (outline l.shape).functions)
