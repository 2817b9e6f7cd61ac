use Rattle.std.proofs.Common.{◌≡◌, ◌++◌, drop}
use Rattle.problems.specs.Outlines.{outline}
use Rattle.variables.specs.Assignments.{of}
use Rattle.variables.specs.Records.{values_of}
use Rattle.pages.specs.Records.{record_lines}
use Rattle.pages.proofs.pricing.record_lines.Given as goal

-- the lines still to come lead on to all of them
abbrev pub invariant-loop-k : goal.invariant-loop-k
invariant-loop-k l =
    l.page.bytes.items ++ record_lines (outline l.shape).sizes l.area (of (values_of l.setting)) l.k (drop l.k (outline l.shape).functions)
    ≡ l.initial.page.bytes.items ++ record_lines (outline l.shape).sizes l.area (of (values_of l.setting)) 0 (outline l.shape).functions
