-- What a visit leads to, by what the prefix that is tried costs.
use Rattle.std.proofs.Common.{◌≡◌, ℕ, suc, true, false, cond, eqb, List, ◌∷◌, map, reverse, length, Some, Option, sym, refl, ap, ◌∙◌, subst, arith}
use Rattle.std.proofs.lemmas.List.{take_all}
use Rattle.std.proofs.lemmas.Bool.{cond_both, cond-true, cond-false, eq-eqb, ne_eqb}
use Rattle.costs.specs.Structures.{Structure, cheaper, total}
use Rattle.variables.specs.declared.plain.Prefix.{Prefix}
use Rattle.problems.specs.declared.shape.Shape.{Shape}
use Rattle.variables.specs.Assignments.{of}
use Rattle.problems.specs.Problems.{Problem}
use Rattle.variables.specs.Records.{order_of, sizes_of, values_of, prefix_of, Longer}
use Rattle.problems.specs.Records.{held}
use Rattle.problems.specs.Outlines.{outline, problem}
use Rattle.floors.specs.Settings.{Formed, Fits}
use Rattle.search.specs.declared.plain.Place.{Place}
use Rattle.search.specs.declared.plain.Search.{Search as Bounded}
use Rattle.search.specs.Searches.{Spot, Search, ended, steady, settled, path_cost, visited}
use Rattle.search.specs.Places.{spot_of, search_of, Backs, noted}
use Rattle.search.proofs.Spots.{path_longer}
use Rattle.search.proofs.Costs.{full_cost}
use Rattle.search.proofs.Visits.{Ready, ready, tried_is, tried_length, tried_low, tried_fit, tried_fits, deeper_steady, backed_steady}

-- a visit that tries y, which costs so much if it is full, and has this floor if not
abbrev led : {C : Type 0} → Structure C → List ℕ → List ℕ → Search C → List ℕ → C → C → Search C
led K sizes order s y cost floor =
    let path : List ℕ = s.spot.path in
    let next : ℕ = s.spot.next in
    let best : Option (List ℕ) = s.spot.incumbent in
    cond (eqb (length y) (length order))
    (cond (cheaper K cost s.bar)
    (record { spot = settled sizes order path (suc next) (Some y); bar = cost })
    (record { spot = settled sizes order path (suc next) best; bar = s.bar }))
    (cond (cheaper K floor s.bar)
    (record { spot = record { path = next ∷ path; next = 0; incumbent = best }; bar = s.bar })
    (record { spot = settled sizes order path (suc next) best; bar = s.bar }))

abbrev Steady : Shape → Place → Type 0
Steady sh a = steady (sizes_of sh.sizes) (order_of sh.order) (spot_of sh.order a) ≡ true

abbrev Goes : Shape → Place → Type 0
Goes sh a = ended (sizes_of sh.sizes) (order_of sh.order) (spot_of sh.order a) ≡ false

module _ (sh : Shape) (b : Place) (tried : Prefix) (longer : Longer sh.order b.prefix tried b.next) (st : Steady sh b) (goes : Goes sh b) where
  pub now : Ready (sizes_of sh.sizes) (order_of sh.order) (spot_of sh.order b)
  now = ready (sizes_of sh.sizes) (order_of sh.order) (spot_of sh.order b) st goes

  pub stays_deeper : (tried.len ≡ length (order_of sh.order) → ⊥) → Steady sh (record { prefix = tried; next = 0; incumbent = b.incumbent })
  stays_deeper partial = deeper_steady sh b tried longer now (spot_of sh.order b).incumbent partial

  -- backed up from a place with the prefix that was tried
  backed : (m a : Place) → m.prefix ≡ tried → Backs sh.order sh.sizes m a
      → spot_of sh.order a ≡ settled (sizes_of sh.sizes) (order_of sh.order) (spot_of sh.order b).path (suc b.next) (spot_of sh.order m).incumbent
  backed m a same backs =
      let o = sh.order in
      backs b.next (spot_of o b).path (ap (λ (p : Prefix). reverse (prefix_of o p)) same ∙ path_longer o b.prefix tried b.next longer) (tried_fit sh b tried longer now)
      (omega (arith, tried_low sh b tried longer now, ap (λ (p : Prefix). p.len) same))

  pub stays_backed : (m a : Place) → m.prefix ≡ tried → Backs sh.order sh.sizes m a → Steady sh a
  stays_backed m a same backs =
      ap (steady (sizes_of sh.sizes) (order_of sh.order)) (backed m a same backs) ∙ backed_steady sh b tried longer now (spot_of sh.order m).incumbent

module _ {C : Type 0} (K : Structure C) (sh : Shape) (area : List C) (b : Bounded C) (tried : Prefix) (longer : Longer sh.order b.place.prefix tried b.place.next)
    (st : Steady sh b.place) (goes : Goes sh b.place) where
  -- with the prefix that is tried
  abbrev pub trying : Bounded C
  trying = record { place = record { prefix = tried; next = b.place.next; incumbent = b.place.incumbent }; bar = b.bar }

  abbrev cells : C
  cells = total K (map (held K (sizes_of sh.sizes) area (of (values_of tried.setting))) (outline sh).functions)

  abbrev best : Place
  best = record { prefix = tried; next = b.place.next; incumbent = Some tried.setting }

  pub stays_noted : (a : Place) → Backs sh.order sh.sizes (noted K (outline sh) area trying).place a → Steady sh a
  stays_noted a =
      cond_both (cheaper K cells b.bar) (record { place = best; bar = cells }) trying (λ (m : Bounded C). Backs sh.order sh.sizes m.place a → Steady sh a)
      (λ _. stays_backed sh b.place tried longer st goes best a refl)
      (λ _. stays_backed sh b.place tried longer st goes trying.place a refl)

  module _ (floor : List ℕ → C) where
    abbrev p : Problem C
    p = problem (outline sh) area

    abbrev y : List ℕ
    y = prefix_of sh.order tried

    abbrev before : Search C
    before = search_of sh.order b

    leads : visited K p floor before ≡ led K p.sizes p.order before y (path_cost K p y) (floor y)
    leads = ap (λ x. led K p.sizes p.order before x (path_cost K p x) (floor x)) (tried_is sh b.place tried longer (now sh b.place tried longer st goes))

    y_length : length y ≡ tried.len
    y_length =
        let r = now sh b.place tried longer st goes in
        ap length (sym (tried_is sh b.place tried longer r)) ∙ tried_length sh b.place tried longer r

    module _ (partial : tried.len ≡ length (order_of sh.order) → ⊥) where
      by_floor : visited K p floor before ≡ cond (cheaper K (floor y) b.bar)
          (record { spot = record { path = b.place.next ∷ before.spot.path; next = 0; incumbent = before.spot.incumbent }; bar = b.bar })
          (record { spot = settled p.sizes p.order before.spot.path (suc b.place.next) before.spot.incumbent; bar = b.bar })
      by_floor =
          leads ∙ cond-false (eqb (length y) (length p.order)) _ _ (ne_eqb (length y) (length p.order) (λ e. partial (sym y_length ∙ e)))

      pub visits_deeper : cheaper K (floor y) b.bar ≡ true
          → visited K p floor before ≡ search_of sh.order (record { place = record { prefix = tried; next = 0; incumbent = b.place.incumbent }; bar = b.bar })
      visits_deeper e =
          by_floor ∙ cond-true (cheaper K (floor y) b.bar) _ _ e
          ∙ ap (λ xs. record { spot = record { path = xs; next = 0; incumbent = before.spot.incumbent }; bar = b.bar }) (sym (path_longer sh.order b.place.prefix tried b.place.next longer))

      pub visits_pruned : cheaper K (floor y) b.bar ≡ false → (a : Place) → Backs sh.order sh.sizes trying.place a
          → visited K p floor before ≡ search_of sh.order (record { place = a; bar = b.bar })
      visits_pruned e a backs =
          by_floor ∙ cond-false (cheaper K (floor y) b.bar) _ _ e
          ∙ ap (λ (s : Spot). record { spot = s; bar = b.bar }) (sym (backed sh b.place tried longer st goes trying.place a refl backs))

    module _ (full : tried.len ≡ length (order_of sh.order)) (formed : Formed p) where
      y_whole : y ≡ map (of (values_of tried.setting)) (order_of sh.order)
      y_whole = ap (map (of (values_of tried.setting))) (take_all tried.len (order_of sh.order) (omega arith))

      y_cost : path_cost K p y ≡ cells
      y_cost =
          let fits = tried_fits sh b.place tried longer (now sh b.place tried longer st goes) area in
          ap (path_cost K p) y_whole ∙ sym (full_cost K (outline sh) area formed (values_of tried.setting) (subst (Fits p) y_whole fits))

      by_cost : visited K p floor before ≡ cond (cheaper K cells b.bar)
          (record { spot = settled p.sizes p.order before.spot.path (suc b.place.next) (Some y); bar = cells })
          (record { spot = settled p.sizes p.order before.spot.path (suc b.place.next) before.spot.incumbent; bar = b.bar })
      by_cost =
          leads ∙ ap (λ (c : C). led K p.sizes p.order before y c (floor y)) y_cost
          ∙ cond-true (eqb (length y) (length p.order)) _ _ (eq-eqb (length y) (length p.order) (y_length ∙ full))

      pub visits_noted : (a : Place) → Backs sh.order sh.sizes (noted K (outline sh) area trying).place a
          → visited K p floor before ≡ search_of sh.order (record { place = a; bar = (noted K (outline sh) area trying).bar })
      visits_noted a =
          cond_both (cheaper K cells b.bar) (record { place = best; bar = cells }) trying
          (λ (m : Bounded C). Backs sh.order sh.sizes m.place a → visited K p floor before ≡ search_of sh.order (record { place = a; bar = m.bar }))
          (λ e backs.
          by_cost ∙ cond-true (cheaper K cells b.bar) _ _ e
          ∙ ap (λ (s : Spot). record { spot = s; bar = cells })
          (ap (λ xs. settled p.sizes p.order before.spot.path (suc b.place.next) (Some xs)) y_whole ∙ sym (backed sh b.place tried longer st goes best a refl backs)))
          (λ e backs.
          by_cost ∙ cond-false (cheaper K cells b.bar) _ _ e
          ∙ ap (λ (s : Spot). record { spot = s; bar = b.bar }) (sym (backed sh b.place tried longer st goes trying.place a refl backs)))
