use Rattle.std.proofs.Common.{◌≡◌, map, drop, vec_items}
use Rattle.orders.specs.Cliques.{fill, fewest, fewest_from}
use Rattle.orders.proofs.elimination.Elimination.fewest.Given as goal

-- the best so far, held against those still to come, leads on to the best of all
abbrev pub invariant-loop-v : goal.invariant-loop-v
invariant-loop-v l =
    (l.least ≡ fill (map vec_items (vec_items l.self.cliques)) (vec_items l.self.left) l.best)
    × (fewest_from (map vec_items (vec_items l.self.cliques)) (vec_items l.self.left) l.best (drop l.v-index l.v-items) ≡ fewest (map vec_items (vec_items l.self.cliques)) (vec_items l.self.left))
    × (l.v-items ≡ vec_items l.self.left)
