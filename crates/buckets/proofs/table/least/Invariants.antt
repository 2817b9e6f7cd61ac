use Rattle.std.proofs.Common.{◌≡◌, ℕ, ◌-◌, ◌∷◌, map, get_or, set}
use Rattle.costs.specs.Structures.{total}
use Rattle.variables.specs.Assignments.{of}
use Rattle.variables.specs.Records.{sizes_of, values_of}
use Rattle.problems.specs.Records.{held}
use Rattle.floors.specs.Leasts.{least_of}
use Rattle.floors.specs.Settings.{assign, values, upto}
use Rattle.buckets.specs.Listed.{listed}
use Rattle.buckets.proofs.table.least.Given as goal

-- the least so far and the costs at the values to come lead on to the least of all; the setting has other values of the variable only
abbrev pub invariant-loop-value : goal.invariant-loop-value
invariant-loop-value g l =
    (least_of g.C.Cost.structure (l.least ∷ map (λ c. total g.C.Cost.structure (map (held g.C.Cost.structure (sizes_of l.sizes) l.area (assign (of (values_of l.tuple)) l.variable c)) (listed l.members))) (upto l.value (get_or (sizes_of l.sizes) l.variable 0 - l.value)))
    ≡ least_of g.C.Cost.structure (map (λ c. total g.C.Cost.structure (map (held g.C.Cost.structure (sizes_of l.sizes) l.area (assign (of (values_of l.tuple)) l.variable c)) (listed l.members))) (values (sizes_of l.sizes) l.variable))) ×
    ((c : ℕ) → set (values_of l.setting) l.variable c ≡ set (values_of l.tuple) l.variable c)
