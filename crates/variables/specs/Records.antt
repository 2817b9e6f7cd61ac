-- What the plain records say.
use Rattle.std.specs.Prelude.{◌≡◌, ℕ, ◌+◌, ◌<◌, ◌≤◌, List, [], ◌∷◌, ◌++◌, map, length, take, Ok, Err, Result, slice_index, slice_set}
use Rattle.lists.specs.Lists.{items_of}
use Rattle.variables.specs.declared.plain.Sizes.{Sizes}
use Rattle.variables.specs.declared.plain.Order.{Order}
use Rattle.variables.specs.declared.plain.Scope.{Scope}
use Rattle.variables.specs.declared.plain.Setting.{Setting}
use Rattle.variables.specs.declared.plain.Misfit.{Misfit}
use Rattle.variables.specs.declared.plain.Misfit.TheVariants.{Length, Value}
use Rattle.variables.specs.declared.plain.Prefix.{Prefix}
use Rattle.variables.specs.Assignments.{of, Full}

-- domain sizes by variable number
abbrev pub sizes_of : Sizes → List ℕ
sizes_of s = take s.len s.sizes

-- the variables along the order
abbrev pub order_of : Order → List ℕ
order_of o = items_of o.variables

-- the variables of a scope
abbrev pub scope_of : Scope → List ℕ
scope_of s = take s.len s.variables

-- values by variable number
abbrev pub values_of : Setting → List ℕ
values_of s = s.values

-- a setting with the listed values where they are a full one, or the first reason why they are not
abbrev pub Fills : List ℕ → List ℕ → Result Setting Misfit → Type 0
Fills sizes s (Ok setting) = Full sizes s × ((v : ℕ) → of (values_of setting) v ≡ of s v)
Fills sizes s (Err Length) = length s ≡ length sizes → ⊥
Fills sizes s (Err (Value v)) =
    (length s ≡ length sizes) × (v < length sizes) × (slice_index sizes v ≤ slice_index s v) × ((u : ℕ) → u < v → slice_index s u < slice_index sizes u)

-- the values of the first variables, along the order
abbrev pub prefix_of : Order → Prefix → List ℕ
prefix_of o p = map (of (values_of p.setting)) (take p.len (order_of o))

-- one value more, for the next variable of the order; every other slot is as it was
pub record Longer (o : Order) (b a : Prefix) (value : ℕ) : Type 0 where
  pub len : a.len ≡ b.len + 1
  pub slots : values_of a.setting ≡ slice_set (values_of b.setting) (slice_index (order_of o) b.len) value
  pub values : prefix_of o a ≡ prefix_of o b ++ value ∷ []

-- the last value taken away, and its variable set to 0
pub record Shorter (o : Order) (b a : Prefix) (value : ℕ) : Type 0 where
  pub len : a.len + 1 ≡ b.len
  pub slots : values_of a.setting ≡ slice_set (values_of b.setting) (slice_index (order_of o) a.len) 0
  pub values : prefix_of o b ≡ prefix_of o a ++ value ∷ []
