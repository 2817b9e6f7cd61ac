use Rattle.std.proofs.Common.{◌≡◌, ◌-◌, [], length}
use Rattle.variables.specs.Records.{sizes_of}
use Rattle.words.specs.Readers.{text_of, left_of}
use Rattle.wcsp.specs.Layouts.{sizes_from}
use Rattle.wcsp.proofs.domains.sizes.Given as goal

-- a size for each variable so far, and the others give what all give
abbrev pub invariant-loop-v : goal.invariant-loop-v
invariant-loop-v l =
    (text_of l.reader ≡ text_of l.initial.reader) ×
    (length (sizes_of l.sizes) ≡ l._v) ×
    (sizes_from (length (text_of l.initial.reader)) l.largest (l.count - l._v) (sizes_of l.sizes) (left_of l.reader)
    ≡ sizes_from (length (text_of l.initial.reader)) l.largest l.count [] (left_of l.initial.reader))
