use Rattle.std.proofs.Common.{◌≡◌, ◌-◌, List, [], length}
use Rattle.variables.specs.Records.{sizes_of, scope_of}
use Rattle.words.specs.Readers.{text_of, left_of}
use Rattle.wcsp.specs.Layouts.{Listed, listed_from}
use Rattle.wcsp.specs.Passes.{by_pass}
use Rattle.wcsp.specs.Tables.{amended}
use Rattle.wcsp.proofs.listing.listed.Given as goal

-- the table has the tuples so far, and the others give what all give
abbrev pub invariant-loop-k : goal.invariant-loop-k
invariant-loop-k l =
    (text_of l.reader ≡ text_of l.initial.reader) ×
    ((done : List Listed) ×
    (listed_from (length (text_of l.initial.reader)) (sizes_of l.sizes) (scope_of l.scope) (l.count - l._k) done (left_of l.reader)
    ≡ listed_from (length (text_of l.initial.reader)) (sizes_of l.sizes) (scope_of l.scope) l.count [] (left_of l.initial.reader)) ×
    (l.table ≡ by_pass l.pass l.initial.table (amended (sizes_of l.sizes) (scope_of l.scope) l.initial.table done)))
