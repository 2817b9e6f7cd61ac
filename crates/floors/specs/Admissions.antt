-- Each of the three floors climbs.
use Rattle.std.specs.Prelude.{◌≡◌, ℕ, ◌+◌, ◌-◌, ◌<◌, ◌≤◌, true, false, ◌⊎◌, List, [], ◌∷◌, ◌++◌, map, length, take, drop, ◌==◌, slice_index, refl}
use Rattle.std.proofs.Common.{sym, ◌∙◌, ap, subst, inl, inr, arith}
use Rattle.std.specs.List.{AllByRecursion}
use Rattle.std.proofs.lemmas.List.{take-append-drop, drop-drop, drop_all, take_all}
use Rattle.std.proofs.lemmas.Bool.{or_right, cases_Bool}
use Rattle.std.proofs.lemmas.Bool.Decides.{nat_tests}
use Rattle.costs.specs.Structures.{Structure, Lawful, total}
use Rattle.variables.specs.Lists.{has}
use Rattle.variables.specs.Assignments.{Assignment, along}
use Rattle.problems.specs.Problems.{Function, Problem, cost_at}
use Rattle.floors.specs.Settings.{assign, values, kept, costs_at}
use Rattle.floors.specs.Shapes.{Shaped}
use Rattle.floors.specs.MiniBuckets.{left, mini_bucket_floor}
use Rattle.floors.specs.Floors.{within, paid_floor, cheapest, first_choice_floor}
use Rattle.floors.specs.Orders.{Le, le_refl, le_trans, le_equal, ge_same, grown, total_kept, total_parted, total_mono, least_le, least_mono}
use Rattle.floors.specs.Scopes.{upto_has, has_first, along_take, cost_agree, costs_agree, Within, within_head, within_tail}
use Rattle.floors.specs.Tables.{Ranged}
use Rattle.floors.specs.Eliminations.{left_within, lefts_le}
use Rattle.floors.specs.Covers.{covered}
use Rattle.floors.specs.Climbs.{Climbs, prefix, prefix_length, take_has, drop_has, take_in, take_more_has}

-- a scope that lies within what is given

pub within_has : (given vs : List ℕ) → within given vs ≡ true → (v : ℕ) → has vs v ≡ true → has given v ≡ true
within_has given [] w v h = grind arith
within_has given (u ∷ vs) w v h = grind (arith, nat_tests, within_has given vs)

within_more : (given more : List ℕ) → ((v : ℕ) → has given v ≡ true → has more v ≡ true) → (vs : List ℕ) → within given vs ≡ true → within more vs ≡ true
within_more given more h [] w = refl
within_more given more h (u ∷ vs) w = grind (arith, h u, within_more given more h vs)

kept_within : {C : Type 0} (given : List ℕ) (fs : List (Function C)) → Within (λ u. has given u ≡ true) (kept (λ f. within given f.scope) fs)
kept_within given [] v m = grind arith
kept_within given (f ∷ fs) v m = grind (arith, within_has given f.scope, kept_within given fs)

module _ {C : Type 0} {K : Structure C} (L : Lawful K) (p : Problem C) where
  paid_at : (a : Assignment) (n : ℕ) → n ≤ length p.order
      → paid_floor K p (prefix p.order a n) ≡ costs_at K p.sizes a (kept (λ f. within (take n p.order) f.scope) p.functions)
  paid_at a n l =
      rw (prefix_length p.order a n l)
      (costs_agree K p.sizes _ (along p.order (prefix p.order a n)) a (λ v m. along_take a p.order n v (kept_within (take n p.order) p.functions v m)))

  pub paid_climbs : Climbs K p (paid_floor K p)
  paid_climbs = record {
    rises = λ a r m n l k.
        let shorter : m ≤ length p.order = omega arith in
        rw (paid_at a m shorter, paid_at a n k)
        (total_kept L (cost_at K p.sizes a) _ _ (λ f. within_more (take m p.order) (take n p.order) (λ v. take_more_has m n p.order v l) f.scope) p.functions);
    tops = λ a r.
        rw (paid_at a (length p.order) (omega arith))
        (le_trans L (grown L _ _) (ge_same L (total_parted L (cost_at K p.sizes a) _ p.functions)));
  }

-- the least cost of one function

module _ {C : Type 0} {K : Structure C} (L : Lawful K) (sizes scope : List ℕ) (F : Assignment → C)
    (alone : (b c : Assignment) → ((u : ℕ) → has scope u ≡ true → b u ≡ c u) → F b ≡ F c) (given more : List ℕ) (included : (u : ℕ) → has given u ≡ true → has more u ≡ true) where
  -- b and c agree but on variables to come that are not given
  abbrev Near : List ℕ → Assignment → Assignment → Type 0
  Near vs b c = (u : ℕ) → has scope u ≡ true → (b u ≡ c u) ⊎ ((has vs u ≡ true) × (has given u ≡ false))

  cheapest_le : (vs : List ℕ) (b c : Assignment) → Near vs b c → ((u : ℕ) → has more u ≡ true → c u < slice_index sizes u) → Le K (cheapest K sizes given vs F b) (cheapest K sizes more vs F c)
  cheapest_le [] b c near ranged = le_equal L (alone b c (λ u h. grind (arith, near u h)))
  cheapest_le (v ∷ vs) b c near ranged =
      elim (cases_Bool (has given v)) [
        | inl t ↦ rw (t, included v t) (cheapest_le vs b c (λ u h. grind (arith, nat_tests, near u h)) ranged)
        | inr t ↦
            elim (cases_Bool (has more v)) [
              | inl s ↦
                  rw (t, s)
                  (le_trans L (least_le L (λ x. cheapest K sizes given vs F (assign b v x)) (values sizes v) (c v) (upto_has (slice_index sizes v) 0 (c v) (omega arith) (omega (arith, ranged v s))))
                  (cheapest_le vs (assign b v (c v)) c (λ u h. grind (arith, nat_tests, near u h)) ranged))
              | inr s ↦
                  rw (t, s)
                  (least_mono L (λ x. cheapest K sizes given vs F (assign b v x)) (λ x. cheapest K sizes more vs F (assign c v x))
                  (λ x. cheapest_le vs (assign b v x) (assign c v x) (λ u h. grind (arith, nat_tests, near u h)) (λ u h. grind (arith, nat_tests, ranged u h))) (values sizes v))
            ]
      ]

cheapest_given : {C : Type 0} (K : Structure C) (sizes given vs : List ℕ) (F : Assignment → C) (a : Assignment) → ((u : ℕ) → has vs u ≡ true → has given u ≡ true) → cheapest K sizes given vs F a ≡ F a
cheapest_given K sizes given [] F a h = refl
cheapest_given K sizes given (v ∷ vs) F a h =
    rw (h v (has_first v vs)) (cheapest_given K sizes given vs F a (λ u k. h u (or_right (v == u) _ k)))

all_of : {A : Type 0} (P : A → Type 0) → ((x : A) → P x) → (xs : List A) → AllByRecursion P xs
all_of P h [] = tt
all_of P h (x ∷ xs) = (h x, all_of P h xs)

all_within : {C : Type 0} (Q : ℕ → Type 0) (P : Function C → Type 0) → ((f : Function C) → ((v : ℕ) → has f.scope v ≡ true → Q v) → P f) → (fs : List (Function C)) → Within Q fs → AllByRecursion P fs
all_within Q P h [] w = tt
all_within Q P h (f ∷ fs) w = (h f (within_head Q f fs w), all_within Q P h fs (within_tail Q f fs w))

module _ {C : Type 0} {K : Structure C} (L : Lawful K) (p : Problem C) (formed : Shaped p) where
  abbrev choice : Assignment → ℕ → Function C → C
  choice a n f = cheapest K p.sizes (take n p.order) f.scope (λ b. cost_at K p.sizes b f) (along p.order (prefix p.order a n))

  choice_at : (a : Assignment) (n : ℕ) → n ≤ length p.order → first_choice_floor K p (prefix p.order a n) ≡ total K (map (choice a n) p.functions)
  choice_at a n l = rw (prefix_length p.order a n l)

  choice_rises : (a : Assignment) → Ranged p.sizes p.order a → (m n : ℕ) → m ≤ n → (f : Function C) → Le K (choice a m f) (choice a n f)
  choice_rises a r m n l f =
      cheapest_le L p.sizes f.scope (λ b. cost_at K p.sizes b f) (λ b c. cost_agree K p.sizes f b c) (take m p.order) (take n p.order) (λ v. take_more_has m n p.order v l)
      f.scope (along p.order (prefix p.order a m)) (along p.order (prefix p.order a n))
      (λ u h. elim (cases_Bool (has (take m p.order) u)) [
        | inl t ↦ inl (along_take a p.order m u t ∙ sym (along_take a p.order n u (take_more_has m n p.order u l t)))
        | inr t ↦ inr (h, t)
      ])
      (λ u h. rw (along_take a p.order n u h) (r u (take_has n p.order u h)))

  choice_tops : (a : Assignment) (f : Function C) → ((v : ℕ) → has f.scope v ≡ true → has p.order v ≡ true) → Le K (choice a (length p.order) f) (cost_at K p.sizes a f)
  choice_tops a f h =
      let all : take (length p.order) p.order ≡ p.order = take_all (length p.order) p.order (omega arith) in
      let given : (v : ℕ) → has f.scope v ≡ true → has (take (length p.order) p.order) v ≡ true = λ v k. rw all (h v k) in
      le_equal L (cheapest_given K p.sizes (take (length p.order) p.order) f.scope (λ b. cost_at K p.sizes b f) (along p.order (prefix p.order a (length p.order))) given
      ∙ cost_agree K p.sizes f _ a (λ v k. along_take a p.order (length p.order) v (given v k)))

  pub first_choice_climbs : Climbs K p (first_choice_floor K p)
  first_choice_climbs = record {
    rises = λ a r m n l k.
        let shorter : m ≤ length p.order = omega arith in
        rw (choice_at a m shorter, choice_at a n k) (total_mono L (choice a m) (choice a n) p.functions (all_of _ (choice_rises a r m n l) p.functions));
    tops = λ a r.
        rw (choice_at a (length p.order) (omega arith))
        (total_mono L (choice a (length p.order)) (cost_at K p.sizes a) p.functions
        (all_within (λ v. has p.order v ≡ true) _ (choice_tops a) p.functions (covered p formed)));
  }

  -- mini-buckets

  module _ (w : ℕ) where
    mini_at : (a : Assignment) (n : ℕ) → n ≤ length p.order
        → mini_bucket_floor K w p (prefix p.order a n) ≡ costs_at K p.sizes a (left K p.sizes p.order w p.functions (drop n p.order))
    mini_at a n l =
        rw (prefix_length p.order a n l)
        (costs_agree K p.sizes _ (along p.order (prefix p.order a n)) a (λ v m.
        let q = left_within L p.sizes p.order w p.functions (covered p formed) (drop n p.order) v m in
        along_take a p.order n v
        (take_in n p.order v q.0 q.1)))

    pub mini_bucket_climbs : Climbs K p (mini_bucket_floor K w p)
    mini_bucket_climbs = record {
      rises = λ a r m n l k.
          let shorter : m ≤ length p.order = omega arith in
          let steps : m + (n - m) ≡ n = omega arith in
          let us : List ℕ = take (n - m) (drop m p.order) in
          let parts : us ++ drop n p.order ≡ drop m p.order =
          ap (λ i. us ++ drop i p.order) (sym steps) ∙ ap (λ l. us ++ l) (sym (drop-drop (n - m) m p.order)) ∙ take-append-drop (n - m) (drop m p.order) in
          rw (mini_at a m shorter, mini_at a n k)
          (subst (λ vs. Le K (costs_at K p.sizes a (left K p.sizes p.order w p.functions vs)) (costs_at K p.sizes a (left K p.sizes p.order w p.functions (drop n p.order)))) parts
          (lefts_le L p.sizes p.order w p.functions (covered p formed) us (drop n p.order) a (λ u h. drop_has m p.order u (take_has (n - m) (drop m p.order) u h)) r));
      tops = λ a r.
          rw (mini_at a (length p.order) (omega arith), drop_all (length p.order) p.order (omega arith)) (le_refl L _);
    }
