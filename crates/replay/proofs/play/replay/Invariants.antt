use Rattle.std.proofs.Common.{take, vec_items}
use Rattle.replay.specs.Chain.{Chain}
use Rattle.replay.proofs.play.replay.Given as goal

-- the calls so far are a chain with the answers so far
abbrev pub invariant-loop-call : goal.invariant-loop-call
invariant-loop-call g l =
    Chain g.C.Cost.structure g.S.FloorSource.rules
    (record { job = l.initial.job; cells = l.initial.cells; bytes = l.initial.bytes })
    (take l.call-index l.calls) (vec_items l.answers)
    (record { job = l.job; cells = l.cells; bytes = l.bytes })
