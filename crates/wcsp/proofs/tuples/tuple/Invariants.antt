use Rattle.std.proofs.Common.{◌≡◌, ℕ, true, List, [], length, take, drop}
use Rattle.variables.specs.Assignments.{of, along}
use Rattle.variables.specs.Records.{sizes_of, scope_of, values_of}
use Rattle.variables.specs.Rules.{fits}
use Rattle.words.specs.Readers.{text_of, left_of}
use Rattle.wcsp.specs.Layouts.{tuple_from}
use Rattle.wcsp.proofs.tuples.tuple.Given as goal

-- the values so far fit their variables and are in the setting, and the others give what all give
abbrev pub invariant-loop-v : goal.invariant-loop-v
invariant-loop-v l =
    (text_of l.reader ≡ text_of l.initial.reader) ×
    ((done : List ℕ) ×
    (tuple_from (length (text_of l.initial.reader)) (sizes_of l.sizes) (drop l.v-index (scope_of l.scope)) done (left_of l.reader)
    ≡ tuple_from (length (text_of l.initial.reader)) (sizes_of l.sizes) (scope_of l.scope) [] (left_of l.initial.reader)) ×
    (fits (sizes_of l.sizes) (take l.v-index (scope_of l.scope)) done ≡ true) ×
    ((v : ℕ) → of (values_of l.setting) v ≡ along (take l.v-index (scope_of l.scope)) done v))
