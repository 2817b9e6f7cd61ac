-- What the search's records say.
use Rattle.std.specs.Prelude.{◌≡◌, ℕ, suc, ◌≤◌, Bool, true, false, cond, List, ◌∷◌, map, reverse, length, Some, Option}
use Rattle.std.specs.Option.{option_map}
use Rattle.costs.specs.Structures.{Structure, cheaper, total}
use Rattle.variables.specs.declared.plain.Order.{Order}
use Rattle.variables.specs.declared.plain.Sizes.{Sizes}
use Rattle.variables.specs.declared.plain.Prefix.{Prefix}
use Rattle.variables.specs.Assignments.{of}
use Rattle.variables.specs.Records.{order_of, sizes_of, values_of, prefix_of}
use Rattle.problems.specs.Records.{held}
use Rattle.problems.specs.Outlines.{Outline, problem}
use Rattle.floors.specs.Settings.{Formed, Fits}
use Rattle.floors.specs.Rules.{Rules}
use Rattle.search.specs.declared.plain.Place.{Place}
use Rattle.search.specs.declared.plain.Search.{Search as Bounded}
use Rattle.search.specs.Searches.{Spot, Search, ran, steady, ended, fit, settled, visited}

-- where the search is that a place describes
abbrev pub spot_of : Order → Place → Spot
spot_of order place = record {
  path = reverse (prefix_of order place.prefix);
  next = place.next;
  incumbent = option_map (λ s. map (of (values_of s)) (order_of order)) place.incumbent;
}

abbrev pub search_of : {C : Type 0} → Order → Bounded C → Search C
search_of order s = record { spot = spot_of order s.place; bar = s.bar }

-- from a prefix of usable values and a next value, backed up as far as it has to be
abbrev pub Settles : Order → Sizes → Prefix → ℕ → Prefix → ℕ → Type 0
Settles order sizes before first after next =
    fit (sizes_of sizes) (order_of order) (reverse (prefix_of order before)) ≡ true → before.len ≤ length (order_of order)
    → (best : Option (List ℕ)) → settled (sizes_of sizes) (order_of order) (reverse (prefix_of order before)) first best ≡ record { path = reverse (prefix_of order after); next = next; incumbent = best }

-- from a prefix of usable values, one on from its last value, and backed up as far as it has to be
abbrev pub Backs : Order → Sizes → Place → Place → Type 0
Backs order sizes before after =
    (last : ℕ) (path : List ℕ) → (spot_of order before).path ≡ last ∷ path → fit (sizes_of sizes) (order_of order) (last ∷ path) ≡ true → before.prefix.len ≤ length (order_of order)
    → spot_of order after ≡ settled (sizes_of sizes) (order_of order) path (suc last) (spot_of order before).incumbent

-- a full prefix noted where what its cells hold is cheaper than the bar
abbrev pub noted : {C : Type 0} → Structure C → Outline → List C → Bounded C → Bounded C
noted {C} K o area s =
    let cost : C = total K (map (held K o.sizes area (of (values_of s.place.prefix.setting))) o.functions) in
    cond (cheaper K cost s.bar)
    (record { place = record { prefix = s.place.prefix; next = s.place.next; incumbent = Some s.place.prefix.setting }; bar = cost })
    s

module _ {C S : Type 0} (R : Rules C S) where
  -- while tables and filled cells stand, whether the floor of a prefix of usable values is cheaper than the bar
  abbrev pub Promises : Structure C → Outline → S → List C → ℕ → List ℕ → C → Bool → Type 0
  Promises K o s area at x bar r =
      R.filled s o area at → Formed (problem o area) → Fits (problem o area) x → r ≡ cheaper K (R.meaning s (problem o area) x) bar

  -- while tables and filled cells stand, what a visit leads to is that of the search by the source's floors
  abbrev pub Visits : Structure C → Outline → S → List C → ℕ → Search C → Search C → Type 0
  Visits K o s area at before after =
      R.filled s o area at → Formed (problem o area) → steady o.sizes o.order before.spot ≡ true → ended o.sizes o.order before.spot ≡ false
      → visited K (problem o area) (R.meaning s (problem o area)) before ≡ after

  -- while tables and filled cells stand, the visits and what they lead to are those of the search by the source's floors
  abbrev pub Runs : Structure C → Outline → S → List C → ℕ → ℕ → Search C → Search C → ℕ → Type 0
  Runs K o s area at budget before after visits =
      R.filled s o area at → Formed (problem o area) → steady o.sizes o.order before.spot ≡ true
      → ran K (problem o area) (R.meaning s (problem o area)) budget before ≡ record { visits = visits; search = after }
