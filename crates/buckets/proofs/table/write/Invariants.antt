use Rattle.std.proofs.Common.{◌≡◌, ◌+◌, ◌++◌, map, take, drop}
use Rattle.variables.specs.Records.{sizes_of, scope_of}
use Rattle.problems.specs.Records.{function_in}
use Rattle.floors.specs.MiniBuckets.{tabulate, eliminated}
use Rattle.buckets.specs.Listed.{listed}
use Rattle.buckets.proofs.table.write.Given as goal

-- the cells so far are written, and no other
abbrev pub invariant-loop-k : goal.invariant-loop-k
invariant-loop-k g l =
    l.area ≡ take l.start l.initial.area
    ++ (take l.k (tabulate (sizes_of l.sizes) (scope_of l.scope) (eliminated g.C.Cost.structure (sizes_of l.sizes) l.variable (map (function_in (sizes_of l.sizes) l.initial.area) (listed l.members))) (λ u. 0))
    ++ drop (l.start + l.k) l.initial.area)
