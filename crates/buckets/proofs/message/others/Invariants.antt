use Rattle.std.proofs.Common.{◌≡◌, false, not, eqb, ◌++◌, get_or, drop}
use Rattle.variables.specs.Records.{order_of, scope_of}
use Rattle.floors.specs.Settings.{kept}
use Rattle.buckets.specs.Listed.{listed}
use Rattle.buckets.specs.Joining.{names}
use Rattle.buckets.proofs.message.others.Given as goal

-- the variables so far, and those still to come
abbrev pub invariant-loop-u : goal.invariant-loop-u
invariant-loop-u l =
    scope_of l.scope ++ kept (λ u. get_or l.named.named u false) (drop l.u-index (order_of l.order))
    ≡ kept (λ u. not (eqb u l.variable)) (kept (names (listed l.members)) (order_of l.order))
