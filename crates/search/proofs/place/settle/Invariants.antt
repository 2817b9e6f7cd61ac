use Rattle.search.proofs.Backing.{Settling}
use Rattle.search.proofs.place.settle.Given as goal

-- what is left to back up leads on to where it ends
abbrev pub invariant-loop-next : goal.invariant-loop-next
invariant-loop-next l = Settling l.shape.order l.shape.sizes l.initial.prefix l.first l.prefix l.next

abbrev pub decreases-loop-next : goal.decreases-loop-next
decreases-loop-next l = l.prefix.len
