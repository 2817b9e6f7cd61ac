use Rattle.std.proofs.Common.{◌≡◌, map}
use Rattle.costs.proofs.Totals.{folded}
use Rattle.variables.specs.Assignments.{of}
use Rattle.variables.specs.Records.{sizes_of, values_of}
use Rattle.problems.specs.Records.{held, placed_of}
use Rattle.floors.specs.Sources.{picked}
use Rattle.floors.proofs.Pickings.{rest}
use Rattle.floors.proofs.plain.Places.cost_up_to.Given as goal

-- the records still to come lead on to all that count
abbrev pub invariant-loop-k : goal.invariant-loop-k
invariant-loop-k g l =
    rest g.C.Cost.structure (sizes_of l.sizes) l.area (of (values_of l.setting)) l.self.places l.last (map (placed_of {END = g.row.END}) l.records) l.sum l.k
    ≡ folded g.C.Cost.structure g.C.Cost.structure.neutral
    (map (held g.C.Cost.structure (sizes_of l.sizes) l.area (of (values_of l.setting))) (picked l.self.places l.last 0 (map (placed_of {END = g.row.END}) l.records)))
