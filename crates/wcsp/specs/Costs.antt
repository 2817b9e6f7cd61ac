-- What a function of a text costs at a tuple.
use Rattle.std.specs.Prelude.{◌≡◌, ℕ, Bool, true, false, cond, ◌&&◌, List, [], ◌∷◌, Some, ◌==◌}
use Rattle.costs.specs.Structures.{Structure}
use Rattle.variables.specs.Assignments.{along}
use Rattle.problems.specs.Problems.{Function, cost_at}
use Rattle.problems.specs.Records.{nth}
use Rattle.variables.specs.Rules.{fits}
use Rattle.wcsp.specs.Layouts.{Listed, Entry, Document}
use Rattle.wcsp.specs.Described.{described}

-- whether two tuples have the same values
abbrev pub same : List ℕ → List ℕ → Bool
same [] [] = true
same [] (y ∷ ys) = false
same (x ∷ xs) [] = false
same (x ∷ xs) (y ∷ ys) = x == y && same xs ys

-- a tuple's cost, where it was so much before: each listing of the tuple replaces it
abbrev pub listed_cost : ℕ → List Listed → List ℕ → ℕ
listed_cost before [] tuple = before
listed_cost before (one ∷ ls) tuple = listed_cost (cond (same one.tuple tuple) one.cost before) ls tuple

-- the cost that is listed last for the tuple, and the usual one if none is
abbrev pub cost_of : Entry → List ℕ → ℕ
cost_of e tuple = listed_cost e.usual e.listed tuple

-- the functions of the described problem cost that, at every tuple of their domains' values
abbrev pub Costs : Document → Type 0
Costs d =
    (K : Structure ℕ) (k : ℕ) (e : Entry) (f : Function ℕ) (tuple : List ℕ) → nth d.entries k ≡ Some e → nth (described d).functions k ≡ Some f
    → fits d.sizes e.scope tuple ≡ true → cost_at K d.sizes (along e.scope tuple) f ≡ cost_of e tuple
