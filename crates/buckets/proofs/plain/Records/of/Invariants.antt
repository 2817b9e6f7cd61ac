use Rattle.std.proofs.Common.{◌≡◌, take}
use Rattle.problems.specs.Outlines.{outline}
use Rattle.buckets.specs.Listed.{listed}
use Rattle.buckets.proofs.plain.Records.of.Given as goal

-- the functions so far
abbrev pub invariant-loop-function : goal.invariant-loop-function
invariant-loop-function l = listed l.records ≡ take l.function-index (outline l.shape).functions
