-- Cost structures: what costs are, the laws that they keep, and what is made of several costs.
use Rattle.std.specs.Prelude.{◌≡◌, Bool, true, not, ◌⊎◌, List, [], ◌∷◌}

-- What the contents of a cell mean. Several contents may mean one cost: `stands c` is the cost that the content c stands for.
pub record Structure (C : Type 0) : Type 0 where
  pub stands : C → C
  pub neutral : C
  pub combined : C → C → C
  pub at_most : C → C → Bool

-- two contents stand for the same cost
abbrev pub Same : {C : Type 0} → Structure C → C → C → Type 0
Same K a b = K.stands a ≡ K.stands b

-- at most, and not equal
abbrev pub cheaper : {C : Type 0} → Structure C → C → C → Bool
cheaper K a b = not (K.at_most b a)

-- What every cost structure promises, for all contents of cells.
pub record Lawful {C : Type 0} (K : Structure C) : Type 0 where
  pub associative : (a b c : C) → K.combined (K.combined a b) c ≡ K.combined a (K.combined b c)
  pub commutative : (a b : C) → K.combined a b ≡ K.combined b a
  -- the neutral cost changes no cost
  pub unit : (a : C) → K.combined K.neutral a ≡ K.stands a
  pub total : (a b : C) → (K.at_most a b ≡ true) ⊎ (K.at_most b a ≡ true)
  pub transitive : (a b c : C) → K.at_most a b ≡ true → K.at_most b c ≡ true → K.at_most a c ≡ true
  pub antisymmetric : (a b : C) → K.at_most a b ≡ true → K.at_most b a ≡ true → Same K a b
  pub least : (a : C) → K.at_most K.neutral a ≡ true
  pub monotone : (a b c : C) → K.at_most a b ≡ true → K.at_most (K.combined a c) (K.combined b c) ≡ true
  -- the order goes by the costs that the contents stand for, and what is combined stands for itself
  pub order_stands : (a b : C) → K.at_most (K.stands a) b ≡ K.at_most a b
  pub combined_stands : (a b : C) → K.stands (K.combined a b) ≡ K.combined a b

-- the costs of a list combined
abbrev pub total : {C : Type 0} → Structure C → List C → C
total K [] = K.neutral
total K (c ∷ cs) = K.combined c (total K cs)
