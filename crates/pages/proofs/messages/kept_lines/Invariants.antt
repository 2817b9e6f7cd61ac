use Rattle.std.proofs.Common.{◌≡◌, ◌++◌, drop}
use Rattle.variables.specs.Records.{sizes_of}
use Rattle.buckets.specs.Sources.{messages}
use Rattle.pages.specs.Messages.{kept_lines}
use Rattle.pages.proofs.messages.kept_lines.Given as goal

-- the lines still to come lead on to all of them
abbrev pub invariant-loop-k : goal.invariant-loop-k
invariant-loop-k l =
    l.page.bytes.items ++ kept_lines (sizes_of l.sizes) l.area l.k (drop l.k (messages l.source))
    ≡ l.initial.page.bytes.items ++ kept_lines (sizes_of l.sizes) l.area 0 (messages l.source)
