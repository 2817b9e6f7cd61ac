-- A loop over the functions that combines the least cost of each comes to First choice's floor.
use Rattle.std.proofs.Common.{◌≡◌, ℕ, zero, suc, ◌+◌, ◌<◌, ◌≤◌, true, false, eqb, leb, ◌⊎◌, List, [], ◌∷◌, map, length, get_or, take, drop, Some, sym, refl, ap, ◌∙◌, subst, ap₂, inl, inr, add-one, arith}
use Rattle.std.proofs.lemmas.List.{drop_all}
use Rattle.std.proofs.lemmas.Bool.{cases_Bool, or_right}
use Rattle.std.proofs.lemmas.Bool.Decides.{nat_tests}
use Rattle.costs.specs.Structures.{Structure, Lawful, total}
use Rattle.costs.proofs.Totals.{folded, folded_total}
use Rattle.variables.specs.Lists.{has}
use Rattle.variables.specs.Assignments.{Assignment, of, along}
use Rattle.problems.specs.Problems.{Function, cost_at}
use Rattle.problems.specs.Records.{Placed, nth, held, function_in}
use Rattle.problems.specs.Outlines.{Outline, problem}
use Rattle.problems.proofs.Bounds.{held_there}
use Rattle.floors.specs.Leasts.{least_of}
use Rattle.floors.specs.Settings.{assign, upto, values, kept, Formed, Fits}
use Rattle.floors.specs.Floors.{cheapest, first_choice_floor}
use Rattle.floors.specs.ByNumber.{place_from}
use Rattle.floors.specs.Sources.{least_held, least_held_by}
use Rattle.floors.specs.Shapes.{shaped}
use Rattle.floors.specs.Scopes.{cost_agree, has_first, Within, within_head, within_tail}
use Rattle.floors.specs.SettingsLemmas.{map_same, along_ranged}
use Rattle.floors.specs.Covers.{covered, known_has}
use Rattle.floors.proofs.Numbers.{place_take}
use Rattle.floors.proofs.Leasts.{kept_here, upto_below}
use Rattle.floors.proofs.Paids.{given, given_length, along_given}

-- one function after the other

module _ {C : Type 0} (K : Structure C) (sizes : List ℕ) (area : List C) (known : List ℕ) (a : Assignment) where
  nth_drop : (fs : List Placed) (k : ℕ) → k < length fs → (f : Placed) × (nth fs k ≡ Some f) × (drop k fs ≡ f ∷ drop (k + 1) fs)
  nth_drop [] k h = absurd (omega arith)
  nth_drop (f ∷ fs) zero h = (f, refl, refl)
  nth_drop (f ∷ fs) (suc k) h = let ih = nth_drop fs k (omega arith) in let next = ih.2 in (ih.0, ih.1, rw (add-one (suc k)) (rw (add-one k) at next))

  -- the functions from number k on, folded onto a sum
  abbrev pub rest : List Placed → C → ℕ → C
  rest fs sum k = folded K sum (map (least_held K sizes area known a) (drop k fs))

  pub rest_next : (fs : List Placed) (sum cost : C) (k : ℕ) (whole : C) → k < length fs → cost ≡ least_held_by K sizes area known a (nth fs k) → rest fs sum k ≡ whole → rest fs (K.combined sum cost) (k + 1) ≡ whole
  rest_next fs sum cost k whole h is before =
      let there = nth_drop fs k h in
      let here : cost ≡ least_held K sizes area known a there.0 = is ∙ ap (least_held_by K sizes area known a) there.1 in
      ap (λ (c : C). folded K (K.combined sum c) (map (least_held K sizes area known a) (drop (k + 1) fs))) here
      ∙ sym (ap (λ (gs : List Placed). folded K sum (map (least_held K sizes area known a) gs)) there.2) ∙ before

  pub rest_none : (fs : List Placed) (sum : C) (k : ℕ) (whole : C) → length fs ≤ k → rest fs sum k ≡ whole → sum ≡ whole
  rest_none fs sum k whole h before = sym (ap (λ (gs : List Placed). folded K sum (map (least_held K sizes area known a) gs)) (drop_all k fs h)) ∙ before

-- the least cost goes by the scope's variables alone: by which of them are given, by the values of those, and by all values that the others may take

module _ {C : Type 0} (K : Structure C) (sizes scope : List ℕ) (F G : Assignment → C)
    (alike : (b c : Assignment) → ((u : ℕ) → has scope u ≡ true → (b u ≡ c u) × (b u < get_or sizes u 0)) → F b ≡ G c) (known known' : List ℕ) where
  -- b and c give values alike but to variables to come that are not given
  abbrev Near : List ℕ → Assignment → Assignment → Type 0
  Near vs b c = (u : ℕ) → has scope u ≡ true → ((b u ≡ c u) × (b u < get_or sizes u 0)) ⊎ ((has vs u ≡ true) × (has known u ≡ false))

  pub cheapest_same : (vs : List ℕ) (b c : Assignment) → ((u : ℕ) → has vs u ≡ true → has known u ≡ has known' u) → Near vs b c → cheapest K sizes known vs F b ≡ cheapest K sizes known' vs G c
  cheapest_same [] b c same near = alike b c (λ u h. grind (arith, near u h))
  cheapest_same (v ∷ vs) b c same near =
      let later : (u : ℕ) → has vs u ≡ true → has known u ≡ has known' u = λ u k. same u (or_right (eqb v u) _ k) in
      elim (cases_Bool (has known v)) [
        | inl t ↦ rw (t, sym (same v (has_first v vs)) ∙ t) (cheapest_same vs b c later (λ u h. grind (arith, nat_tests, near u h)))
        | inr t ↦
            rw (t, sym (same v (has_first v vs)) ∙ t)
            (ap (least_of K) (map_same (λ x. cheapest K sizes known vs F (assign b v x)) (λ x. cheapest K sizes known' vs G (assign c v x)) (values sizes v)
            (λ x k. let low : x < get_or sizes v 0 = omega (arith, upto_below (get_or sizes v 0) 0 x k) in cheapest_same vs (assign b v x) (assign c v x) later (λ u h. grind (arith, nat_tests, near u h)))))
      ]

module _ {C : Type 0} (K : Structure C) (L : Lawful K) (o : Outline) (area : List C) (formed : Formed (problem o area)) (slots : List ℕ) (n : ℕ) (le : n ≤ length o.order)
    (fits : Fits (problem o area) (given K L o area formed slots n le))
    (places : List ℕ) (long : length o.sizes ≤ length places) (noted : (v : ℕ) → v < length places → get_or places v 0 ≡ place_from 1 o.order v) where
  -- the variables given, by their places
  abbrev pub early : List ℕ
  early = kept (λ v. leb (get_or places v 0) n) (upto 0 (length places))

  early_same : (v : ℕ) → has o.order v ≡ true → has early v ≡ has (take n o.order) v
  early_same v h =
      let low : v < length places = omega (arith, known_has (length o.sizes) o.order v (shaped (problem o area) formed).order_known h) in
      sym (kept_here (λ u. leb (get_or places u 0) n) (length places) v low) ∙ ap (λ i. leb i n) (noted v low) ∙ ap (leb (place_from 1 o.order v)) (omega arith) ∙ place_take 0 o.order n v h

  abbrev prefix : List ℕ
  prefix = given K L o area formed slots n le

  one_same : (f : Placed) → ((v : ℕ) → has f.scope v ≡ true → has o.order v ≡ true)
      → least_held K o.sizes area early (of slots) f
      ≡ cheapest K o.sizes (take n o.order) f.scope (λ a. cost_at K o.sizes a (function_in o.sizes area f)) (along o.order prefix)
  one_same f inside =
      cheapest_same K o.sizes f.scope (λ b. held K o.sizes area b f) (λ b. cost_at K o.sizes b (function_in o.sizes area f))
      (λ b c h. held_there K o.sizes area f b (λ v k. (h v k).1) ∙ cost_agree K o.sizes (function_in o.sizes area f) b c (λ v k. (h v k).0))
      early (take n o.order) f.scope (of slots) (along o.order prefix) (λ v h. early_same v (inside v h))
      (λ v h. elim (cases_Bool (has (take n o.order) v)) [
        | inl t ↦
            let same : along o.order prefix v ≡ of slots v = along_given K L o area formed slots n le v t in
            inl (sym same, subst (λ c. c < get_or o.sizes v 0) same (along_ranged (problem o area) (shaped (problem o area) formed) prefix fits v (inside v h)))
        | inr t ↦ inr (h, early_same v (inside v h) ∙ t)
      ])

  all_same : (fs : List Placed) → Within (λ v. has o.order v ≡ true) (map (function_in o.sizes area) fs)
      → total K (map (least_held K o.sizes area early (of slots)) fs)
      ≡ total K (map (λ (f : Function C). cheapest K o.sizes (take n o.order) f.scope (λ a. cost_at K o.sizes a f) (along o.order prefix)) (map (function_in o.sizes area) fs))
  all_same [] inside = refl
  all_same (f ∷ fs) inside =
      let g = function_in o.sizes area f in
      let gs = map (function_in o.sizes area) fs in
      ap₂ K.combined (one_same f (within_head _ g gs inside)) (all_same fs (within_tail _ g gs inside))

  pub first_choice_told : folded K K.neutral (map (least_held K o.sizes area early (of slots)) o.functions) ≡ first_choice_floor K (problem o area) prefix
  first_choice_told =
      let p = problem o area in
      folded_total K L (map (least_held K o.sizes area early (of slots)) o.functions)
      ∙ all_same o.functions (covered p (shaped p formed))
      ∙ ap (λ m. total K (map (λ (f : Function C). cheapest K o.sizes (take m o.order) f.scope (λ a. cost_at K o.sizes a f) (along o.order prefix)) p.functions)) (sym (given_length K L o area formed slots n le))
