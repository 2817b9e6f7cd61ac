use Rattle.std.proofs.Common.{◌≡◌, ◌-◌, true, [], length}
use Rattle.variables.specs.Records.{sizes_of, scope_of}
use Rattle.variables.specs.Rules.{proper}
use Rattle.words.specs.Readers.{text_of, left_of}
use Rattle.wcsp.specs.Layouts.{scope_from}
use Rattle.wcsp.proofs.scopes.scope.Given as goal

-- the variables so far are a proper scope, and the others give what all give
abbrev pub invariant-loop-k : goal.invariant-loop-k
invariant-loop-k l =
    (text_of l.reader ≡ text_of l.initial.reader) ×
    (length (scope_of l.scope) ≡ l._k) ×
    (scope_from (length (text_of l.initial.reader)) (length (sizes_of l.sizes)) (l.arity - l._k) (scope_of l.scope) (left_of l.reader)
    ≡ scope_from (length (text_of l.initial.reader)) (length (sizes_of l.sizes)) l.arity [] (left_of l.initial.reader)) ×
    (proper (length (sizes_of l.sizes)) (scope_of l.scope) ≡ true)
