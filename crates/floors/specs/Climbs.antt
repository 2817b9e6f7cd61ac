-- Floors along one assignment: what rises with the prefix, up to the cost, is admissible and never falls.
use Rattle.std.specs.Prelude.{◌≡◌, ℕ, ◌≤◌, true, false, List, map, length, take, drop}
use Rattle.std.proofs.Common.{sym, ◌∙◌, ap, subst, subst₂, inl, inr, arith}
use Rattle.std.proofs.lemmas.List.{length-take-le, length-map, take-take, take_all, take-append-drop}
use Rattle.std.proofs.lemmas.Bool.{cases_lt}
use Rattle.costs.specs.Structures.{Structure, Lawful}
use Rattle.variables.specs.Lists.{has}
use Rattle.variables.specs.Assignments.{Assignment, of, along}
use Rattle.problems.specs.Problems.{Problem, cost}
use Rattle.floors.specs.Settings.{costs_at}
use Rattle.floors.specs.Shapes.{Shaped}
use Rattle.floors.specs.Floors.{Admissible, NeverFalls}
use Rattle.floors.specs.Orders.{Le, le_refl, le_trans}
use Rattle.floors.specs.Scopes.{has_append, has_left, has_right}
use Rattle.floors.specs.Tables.{Ranged}
use Rattle.floors.specs.SettingsLemmas.{full_ranged, along_ranged, along_prefix}

-- the first n values that `a` gives along the order
abbrev pub prefix : List ℕ → Assignment → ℕ → List ℕ
prefix order a n = take n (map a order)

pub prefix_length : (order : List ℕ) (a : Assignment) (n : ℕ) → n ≤ length order → length (prefix order a n) ≡ n
prefix_length order a n l = length-take-le n (map a order) (rw length-map l)

pub take_has : (n : ℕ) (xs : List ℕ) (v : ℕ) → has (take n xs) v ≡ true → has xs v ≡ true
take_has n xs v h = subst (λ l. has l v ≡ true) (take-append-drop n xs) (has_left (take n xs) (drop n xs) v h)

pub drop_has : (n : ℕ) (xs : List ℕ) (v : ℕ) → has (drop n xs) v ≡ true → has xs v ≡ true
drop_has n xs v h = subst (λ l. has l v ≡ true) (take-append-drop n xs) (has_right (take n xs) (drop n xs) v h)

pub take_more_has : (m n : ℕ) (xs : List ℕ) (v : ℕ) → m ≤ n → has (take m xs) v ≡ true → has (take n xs) v ≡ true
take_more_has m n xs v l h = take_has m (take n xs) v (rw (take-take m n xs l) h)

pub take_in : (n : ℕ) (xs : List ℕ) (v : ℕ) → has xs v ≡ true → has (drop n xs) v ≡ false → has (take n xs) v ≡ true
take_in n xs v h k = grind (arith, has_append (take n xs) (drop n xs) v, take-append-drop n xs)

pub record Climbs {C : Type 0} (K : Structure C) (p : Problem C) (floor : List ℕ → C) : Type 0 where
  pub rises : (a : Assignment) → Ranged p.sizes p.order a → (m n : ℕ) → m ≤ n → n ≤ length p.order → Le K (floor (prefix p.order a m)) (floor (prefix p.order a n))
  pub tops : (a : Assignment) → Ranged p.sizes p.order a → Le K (floor (prefix p.order a (length p.order))) (costs_at K p.sizes a p.functions)

module _ {C : Type 0} {K : Structure C} (L : Lawful K) (p : Problem C) (formed : Shaped p) (floor : List ℕ → C) (climbs : Climbs K p floor) where
  pub admissible : Admissible K p floor
  admissible x s l full begins =
      let r = full_ranged p formed s full in
      subst (λ y. K.at_most (floor y) (cost K p s) ≡ true) begins (le_trans L (climbs.rises (of s) r (length x) (length p.order) l (omega arith)) (climbs.tops (of s) r)).is

  pub never_falls : NeverFalls K p floor
  never_falls x m fits =
      let a : Assignment = along p.order x in
      let begins : prefix p.order a (length x) ≡ x = along_prefix p.order x formed.order_distinct fits.0 in
      elim (cases_lt m (length x)) [
        | inl k ↦
            let shorter : m ≤ length x = omega arith in
            let same : prefix p.order a m ≡ take m x = sym (take-take m (length x) (map a p.order) shorter) ∙ ap (take m) begins in
            subst₂ (λ y z. K.at_most (floor y) (floor z) ≡ true) same begins (climbs.rises a (along_ranged p formed x fits) m (length x) shorter fits.0).is
        | inr k ↦ rw (take_all m x k) (le_refl L (floor x)).is
      ]
