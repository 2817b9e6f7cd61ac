use Rattle.std.proofs.Common.{◌≡◌, ◌++◌, map, drop}
use Rattle.variables.specs.Assignments.{of}
use Rattle.variables.specs.Records.{values_of}
use Rattle.floors.specs.Settings.{upto}
use Rattle.jobs.proofs.report.list.Given as goal

-- the places so far hold the values of the first variables
abbrev pub invariant-loop-variable : goal.invariant-loop-variable
invariant-loop-variable l = l.buffer ≡ map (of (values_of l.setting)) (upto 0 l.variable) ++ drop l.variable l.initial.buffer
