use Rattle.std.proofs.Common.{◌≡◌, take, drop}
use Rattle.variables.specs.Records.{sizes_of}
use Rattle.variables.specs.Rules.{domains}
use Rattle.variables.proofs.plain.Sizes.of.Given as goal

-- the sizes so far are in the record, and it is up to the others whether all are domains'
abbrev pub invariant-loop-size : goal.invariant-loop-size
invariant-loop-size l = (sizes_of l.all ≡ take l.size-index l.sizes) × (domains (drop l.size-index l.sizes) ≡ domains l.sizes)
