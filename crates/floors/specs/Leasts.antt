-- The least of several costs.
use Rattle.std.specs.Prelude.{cond, List, [], ◌∷◌}
use Rattle.costs.specs.Structures.{Structure}

abbrev pub lesser : {C : Type 0} → Structure C → C → C → C
lesser K a b = cond (K.at_most a b) a b

-- the least of a list that is not empty
abbrev pub least_of : {C : Type 0} → Structure C → List C → C
least_of K [] = K.neutral
least_of K (c ∷ []) = c
least_of K (c ∷ (d ∷ ds)) = lesser K c (least_of K (d ∷ ds))
