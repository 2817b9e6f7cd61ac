use Rattle.std.proofs.Common.{◌≡◌, ◌-◌, ◌++◌, map, length, vec_items}
use Rattle.problems.specs.Outlines.{outline}
use Rattle.orders.specs.Cliques.{scopes}
use Rattle.orders.specs.Orders.{numbered, eliminated}
use Rattle.orders.proofs.min_fill.eliminations.Given as goal

-- what is still to be eliminated leads on to the whole elimination
abbrev pub invariant-loop : goal.invariant-loop
invariant-loop l =
    vec_items l.gone ++ eliminated (length (outline l.shape).sizes - l.counter) (map vec_items (vec_items l.elimination.cliques)) (vec_items l.elimination.left)
    ≡ eliminated (length (outline l.shape).sizes) (scopes (outline l.shape).functions) (numbered (length (outline l.shape).sizes))
