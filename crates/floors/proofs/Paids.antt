-- The functions that a loop picks for a prefix are those whose scope lies in it, at the prefix's own values.
use Rattle.std.proofs.Common.{◌≡◌, ℕ, ◌<◌, ◌≤◌, true, leb, List, [], ◌∷◌, map, length, get_or, take, sym, refl, ap, ◌∙◌, subst, ap₂, inl, inr}
use Rattle.std.proofs.lemmas.List.{length-map, length-take-le, take-map}
use Rattle.std.proofs.lemmas.Bool.{cases_Bool}
use Rattle.costs.specs.Structures.{Structure, Lawful, total}
use Rattle.variables.specs.Lists.{has}
use Rattle.variables.specs.Assignments.{of, along}
use Rattle.problems.specs.Problems.{Function, cost_at}
use Rattle.problems.specs.Records.{Placed, nth, held, function_in}
use Rattle.problems.specs.Outlines.{Outline, problem}
use Rattle.problems.proofs.Bounds.{held_there}
use Rattle.floors.specs.Settings.{kept, costs_at, Formed, Fits}
use Rattle.floors.specs.Floors.{paid_floor}
use Rattle.floors.specs.ByNumber.{bucket_of}
use Rattle.floors.specs.Sources.{bucket_in, picked}
use Rattle.floors.specs.Shapes.{shaped}
use Rattle.floors.specs.Scopes.{along_take, cost_agree, Within, within_head, within_tail}
use Rattle.floors.specs.SettingsLemmas.{along_ranged}
use Rattle.floors.specs.Covers.{covered}
use Rattle.floors.specs.Admissions.{within_has}
use Rattle.floors.proofs.Numbers.{bucket_take, paid_same}
use Rattle.floors.proofs.Pickings.{noted_picked}

module _ {C : Type 0} (K : Structure C) (L : Lawful K) (o : Outline) (area : List C) (formed : Formed (problem o area)) (values : List ℕ) (n : ℕ) (le : n ≤ length o.order) where
  -- the prefix
  abbrev pub given : List ℕ
  given = map (of values) (take n o.order)

  pub given_length : length given ≡ n
  given_length = length-map (take n o.order) (of values) ∙ length-take-le n o.order le

  pub along_given : (v : ℕ) → has (take n o.order) v ≡ true → along o.order given v ≡ of values v
  along_given v h = ap (λ xs. along o.order xs v) (sym (take-map (of values) n o.order)) ∙ along_take (of values) o.order n v h

  module _ (fits : Fits (problem o area) given) where
    pub held_along : (f : Placed) → ((v : ℕ) → has f.scope v ≡ true → has o.order v ≡ true) → leb (bucket_of o.order f.scope) n ≡ true
        → held K o.sizes area (of values) f ≡ cost_at K o.sizes (along o.order given) (function_in o.sizes area f)
    held_along f inside low =
        let early : (v : ℕ) → has f.scope v ≡ true → has (take n o.order) v ≡ true = within_has (take n o.order) f.scope (sym (bucket_take o.order n f.scope inside) ∙ low) in
        let p = problem o area in
        let ranged : (v : ℕ) → has f.scope v ≡ true → of values v < get_or o.sizes v 0 =
        λ v h. subst (λ c. c < get_or o.sizes v 0) (along_given v (early v h)) (along_ranged p (shaped p formed) given fits v (inside v h)) in
        held_there K o.sizes area f (of values) ranged
        ∙ cost_agree K o.sizes (function_in o.sizes area f) (of values) (along o.order given) (λ v h. sym (along_given v (early v h)))

    pub kept_along : (fs : List Placed) → Within (λ v. has o.order v ≡ true) (map (function_in o.sizes area) fs)
        → total K (map (held K o.sizes area (of values)) (kept (λ (f : Placed). leb (bucket_of o.order f.scope) n) fs))
        ≡ costs_at K o.sizes (along o.order given) (kept (λ (f : Function C). leb (bucket_of o.order f.scope) n) (map (function_in o.sizes area) fs))
    kept_along [] inside = refl
    kept_along (f ∷ fs) inside =
        let later = kept_along fs (within_tail _ (function_in o.sizes area f) (map (function_in o.sizes area) fs) inside) in
        elim (cases_Bool (leb (bucket_of o.order f.scope) n)) [
          | inl e ↦ rw e (ap₂ K.combined (held_along f (within_head _ (function_in o.sizes area f) (map (function_in o.sizes area) fs) inside) e) later)
          | inr e ↦ rw e later
        ]

    -- a loop over the functions that counts those of noted buckets up to n comes to Paid's floor
    pub paid_told : (bs : List ℕ) → ((k : ℕ) → k < length o.functions → get_or bs k 0 ≡ bucket_in o.order (nth o.functions k))
        → total K (map (held K o.sizes area (of values)) (picked bs n 0 o.functions)) ≡ paid_floor K (problem o area) given
    paid_told bs noted =
        let p = problem o area in
        ap (λ (fs : List Placed). total K (map (held K o.sizes area (of values)) fs)) (noted_picked o.order bs n o.functions noted)
        ∙ kept_along o.functions (covered p (shaped p formed))
        ∙ ap (λ m. costs_at K o.sizes (along o.order given) (kept (λ (f : Function C). leb (bucket_of o.order f.scope) m) (map (function_in o.sizes area) o.functions))) (sym given_length)
        ∙ paid_same L p (shaped p formed) given
