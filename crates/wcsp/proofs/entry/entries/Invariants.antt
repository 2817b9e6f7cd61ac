use Rattle.std.proofs.Common.{◌≡◌, ◌-◌, List, [], length}
use Rattle.problems.specs.Outlines.{outline}
use Rattle.words.specs.Readers.{text_of, left_of}
use Rattle.wcsp.specs.Layouts.{Entry, entries_from}
use Rattle.wcsp.specs.Passes.{by_pass}
use Rattle.wcsp.specs.Tables.{laid}
use Rattle.wcsp.specs.Described.{entered_all, tables}
use Rattle.wcsp.proofs.entry.entries.Given as goal

-- the functions so far are entered, their tables lie one behind the other, and the others give what all give
abbrev pub invariant-loop-k : goal.invariant-loop-k
invariant-loop-k l =
    (text_of l.reader ≡ text_of l.initial.reader) ×
    ((done : List Entry) ×
    (entries_from (length (text_of l.initial.reader)) (length l.initial.area) (outline l.initial.shape).sizes (l.count - l._k) (outline l.shape).used done (left_of l.reader)
    ≡ entries_from (length (text_of l.initial.reader)) (length l.initial.area) (outline l.initial.shape).sizes l.count (outline l.initial.shape).used [] (left_of l.initial.reader)) ×
    (outline l.shape ≡ entered_all (outline l.initial.shape) done) ×
    (length done ≡ l._k) ×
    (l.area ≡ by_pass l.pass l.initial.area (laid l.initial.area (outline l.initial.shape).used (tables (outline l.initial.shape).sizes done))))
