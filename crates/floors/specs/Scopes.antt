-- Which variables a list, a scope or some functions have, and that costs go by the values of those alone.
use Rattle.std.specs.Prelude.{◌≡◌, ℕ, zero, suc, ◌+◌, ◌*◌, ◌<◌, ◌≤◌, Bool, true, false, not, ◌⊎◌, List, [], ◌∷◌, ◌++◌, map, take, ◌==◌, slice_index, slice_index_or, refl}
use Rattle.std.proofs.Common.{ap, ap₂, inr, arith}
use Rattle.std.proofs.Math.Path.{fun_ext}
use Rattle.std.proofs.lemmas.Bool.{or_left, or_right}
use Rattle.std.proofs.lemmas.Bool.Decides.{nat_tests}
use Rattle.costs.specs.Structures.{Structure}
use Rattle.variables.specs.Lists.{has}
use Rattle.variables.specs.Assignments.{Assignment, cell_from, along}
use Rattle.problems.specs.Problems.{Function, cost_at}
use Rattle.floors.specs.Settings.{assign, upto, kept, costs_at}
use Rattle.floors.specs.MiniBuckets.{mentions}

-- lists

pub upto_has : (n from c : ℕ) → from ≤ c → c < from + n → has (upto from n) c ≡ true
upto_has zero from c l h = grind arith
upto_has (suc n) from c l h = grind (arith, nat_tests, upto_has n (suc from) c)

pub has_append : (xs ys : List ℕ) (v : ℕ) → has (xs ++ ys) v ≡ true → (has xs v ≡ true) ⊎ (has ys v ≡ true)
has_append [] ys v h = inr h
has_append (x ∷ xs) ys v h = grind (arith, has_append xs ys v)

pub has_left : (xs ys : List ℕ) (v : ℕ) → has xs v ≡ true → has (xs ++ ys) v ≡ true
has_left [] ys v h = grind arith
has_left (x ∷ xs) ys v h = grind (arith, has_left xs ys v)

pub has_right : (xs ys : List ℕ) (v : ℕ) → has ys v ≡ true → has (xs ++ ys) v ≡ true
has_right [] ys v h = h
has_right (x ∷ xs) ys v h = or_right (x == v) _ (has_right xs ys v h)

pub has_first : (v : ℕ) (vs : List ℕ) → has (v ∷ vs) v ≡ true
has_first v vs = grind (arith, nat_tests)

pub kept_has : (p : ℕ → Bool) (xs : List ℕ) (v : ℕ) → has (kept p xs) v ≡ true → (p v ≡ true) × (has xs v ≡ true)
kept_has p [] v h = grind arith
kept_has p (x ∷ xs) v h = grind (arith, nat_tests, kept_has p xs v)

pub has_kept : (p : ℕ → Bool) (xs : List ℕ) (v : ℕ) → p v ≡ true → has xs v ≡ true → has (kept p xs) v ≡ true
has_kept p [] v t h = h
has_kept p (x ∷ xs) v t h = grind (arith, nat_tests, has_kept p xs v)

-- assignments

pub assign_self : (a : Assignment) (v : ℕ) → assign a v (a v) ≡ a
assign_self a v = fun_ext (λ u. grind (arith, nat_tests))

-- a prefix of what `a` gives along the order gives the same to the variables that it covers
pub along_take : (a : Assignment) (order : List ℕ) (n v : ℕ) → has (take n order) v ≡ true → along order (take n (map a order)) v ≡ a v
along_take a [] zero v h = grind arith
along_take a [] (suc n) v h = grind arith
along_take a (u ∷ order) zero v h = grind arith
along_take a (u ∷ order) (suc n) v h = grind (arith, nat_tests, along_take a order n v)

pub cell_agree : (sizes : List ℕ) (at : ℕ) (vs : List ℕ) (a b : Assignment) → ((v : ℕ) → has vs v ≡ true → a v ≡ b v) → cell_from sizes at vs a ≡ cell_from sizes at vs b
cell_agree sizes at [] a b h = refl
cell_agree sizes at (v ∷ vs) a b h = grind (arith, nat_tests, cell_agree sizes (at * slice_index sizes v + b v) vs a b)

module _ {C : Type 0} (K : Structure C) (sizes : List ℕ) where
  pub cost_agree : (f : Function C) (a b : Assignment) → ((v : ℕ) → has f.scope v ≡ true → a v ≡ b v) → cost_at K sizes a f ≡ cost_at K sizes b f
  cost_agree f a b h = ap (λ i. slice_index_or f.table i K.neutral) (cell_agree sizes 0 f.scope a b h)

  pub costs_agree : (fs : List (Function C)) (a b : Assignment) → ((v : ℕ) → mentions fs v ≡ true → a v ≡ b v) → costs_at K sizes a fs ≡ costs_at K sizes b fs
  costs_agree [] a b h = refl
  costs_agree (f ∷ fs) a b h =
      ap₂ K.combined (cost_agree f a b (λ v k. h v (or_left (has f.scope v) _ k))) (costs_agree fs a b (λ v k. h v (or_right (has f.scope v) _ k)))

-- functions of which every variable has Q
abbrev pub Within : {C : Type 0} → (ℕ → Type 0) → List (Function C) → Type 0
Within Q fs = (v : ℕ) → mentions fs v ≡ true → Q v

module _ {C : Type 0} (Q : ℕ → Type 0) where
  pub within_append : (fs gs : List (Function C)) → Within Q fs → Within Q gs → Within Q (fs ++ gs)
  within_append [] gs h k v m = k v m
  within_append (f ∷ fs) gs h k v m = grind (arith, within_append fs gs)

  pub within_head : (f : Function C) (fs : List (Function C)) → Within Q (f ∷ fs) → (v : ℕ) → has f.scope v ≡ true → Q v
  within_head f fs h v k = h v (or_left (has f.scope v) _ k)

  pub within_tail : (f : Function C) (fs : List (Function C)) → Within Q (f ∷ fs) → Within Q fs
  within_tail f fs h v k = h v (or_right (has f.scope v) _ k)

  pub within_kept : (p : Function C → Bool) (fs : List (Function C)) → Within Q fs → Within Q (kept p fs)
  within_kept p [] h v m = h v m
  within_kept p (f ∷ fs) h v m = grind (arith, within_kept p fs)

-- the functions that lack v mention only other variables
pub kept_lacks : {C : Type 0} (v : ℕ) (fs : List (Function C)) → Within (λ u. (v == u) ≡ false) (kept (λ f. not (has f.scope v)) fs)
kept_lacks v [] u m = grind arith
kept_lacks v (f ∷ fs) u m = grind (arith, nat_tests, kept_lacks v fs)
