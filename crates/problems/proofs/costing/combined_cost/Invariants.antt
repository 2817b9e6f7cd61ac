use Rattle.std.proofs.Common.{◌≡◌, map, drop}
use Rattle.costs.proofs.Totals.{folded}
use Rattle.variables.specs.Assignments.{of}
use Rattle.variables.specs.Records.{sizes_of, values_of}
use Rattle.problems.specs.Records.{placed_of, held}
use Rattle.problems.proofs.costing.combined_cost.Given as goal

-- the costs of the tables still to come lead on from here to all of them
abbrev pub invariant-loop-record : goal.invariant-loop-record
invariant-loop-record g l =
    folded g.C.Cost.structure l.sum (drop l.record-index (map (held g.C.Cost.structure (sizes_of l.sizes) l.area (of (values_of l.setting))) (map placed_of l.records)))
    ≡ folded g.C.Cost.structure g.C.Cost.structure.neutral (map (held g.C.Cost.structure (sizes_of l.sizes) l.area (of (values_of l.setting))) (map placed_of l.records))
