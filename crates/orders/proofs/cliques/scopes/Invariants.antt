use Rattle.std.proofs.Common.{◌≡◌, map, take, vec_items}
use Rattle.problems.specs.Outlines.{outline}
use Rattle.orders.specs.Cliques.{scopes}
use Rattle.orders.proofs.cliques.scopes.Given as goal

abbrev pub invariant-loop-function : goal.invariant-loop-function
invariant-loop-function l = map vec_items (vec_items l.all) ≡ scopes (take l.function-index (outline l.shape).functions)
