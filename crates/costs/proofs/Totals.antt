-- Costs combined one after the other.
use mathlib.Core.Path.{◌≡◌, refl, sym, ◌∙◌}
use mathlib.Core.List.{List, [], ◌∷◌}
use Rattle.costs.specs.Structures.{Structure, Lawful, total}

-- from the left, as a loop combines them
abbrev pub folded : {C : Type 0} → Structure C → C → List C → C
folded K acc [] = acc
folded K acc (c ∷ cs) = folded K (K.combined acc c) cs

module _ {C : Type 0} (K : Structure C) (L : Lawful K) where
  folded_on : (a b : C) (cs : List C) → folded K (K.combined a b) cs ≡ K.combined a (K.combined b (total K cs))
  folded_on a b [] =
      sym (L.combined_stands a b) ∙ sym (L.unit (K.combined a b)) ∙ L.commutative K.neutral (K.combined a b) ∙ L.associative a b K.neutral
  folded_on a b (c ∷ cs) = folded_on (K.combined a b) c cs ∙ L.associative a b (K.combined c (total K cs))

  -- a loop that begins with the neutral cost comes to the total
  pub folded_total : (cs : List C) → folded K K.neutral cs ≡ total K cs
  folded_total [] = refl
  folded_total (c ∷ cs) = folded_on K.neutral c cs ∙ L.unit (K.combined c (total K cs)) ∙ L.combined_stands c (total K cs)
