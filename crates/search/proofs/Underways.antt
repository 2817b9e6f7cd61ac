-- What holds of a search after every visit.
use Rattle.std.proofs.Common.{◌≡◌, ℕ, zero, suc, ◌+◌, ◌<◌, ◌≤◌, true, false, eqb, ltb, List, [], ◌∷◌, reverse, length, take, Some, None, Option, sym, refl, ap, ◌∙◌, ⊎_elim, zero-add, arith, take_all}
use native.Mathlib.Nat.{sub-zero}
use Rattle.std.proofs.lemmas.Bool.{cond_both, eqb-true, and_parts}
use Rattle.std.proofs.lemmas.List.{length-reverse}
use Rattle.std.proofs.lemmas.Bool.Decides.{nat_tests}
use Rattle.costs.specs.Structures.{Structure, cheaper}
use Rattle.problems.specs.Problems.{Problem}
use Rattle.floors.specs.Shapes.{Shaped, shaped}
use Rattle.search.specs.Searches.{Search, Ran, started, size_at, ended, fit, steady, settled, path_cost, visited, ran}
use Rattle.search.specs.Finds.{earlier, setting, prefixes}
use Rattle.search.specs.Theorems.{Granted}
use Rattle.search.proofs.Points.{Point, full_setting, in_order_setting, cost_setting}
use Rattle.search.proofs.Positions.{Follows, Older, older_more, older_back, older_from_earlier, fit_at, rest_more, left, left_more}
use Rattle.search.proofs.Steadiness.{Steady, steady_parts, steady_start, steady_visited, ran_both}

module _ {C : Type 0} (K : Structure C) (p : Problem C) where
  -- nothing before the position is cheaper than the bar
  abbrev pub Covered : C → List ℕ → Type 0
  Covered bar position = (x : List ℕ) → Point p x → Older x position → K.at_most bar (path_cost K p x) ≡ true

  -- what the incumbent and the bar are; whatever is earlier than the incumbent is dearer
  abbrev pub Stands : C → C → Option (List ℕ) → Type 0
  Stands limit bar None = bar ≡ limit
  Stands limit bar (Some y) =
      Point p y × (bar ≡ path_cost K p y) × (cheaper K bar limit ≡ true) × ((x : List ℕ) → Point p x → earlier x y ≡ true → cheaper K bar (path_cost K p x) ≡ true)

-- at most `most` visits are left
pub record Leads {C : Type 0} (K : Structure C) (p : Problem C) (limit : C) (most : ℕ) (s : Search C) : Type 0 where
  pub covered : Covered K p s.bar (s.spot.next ∷ s.spot.path)
  pub stands : Stands K p limit s.bar s.spot.incumbent
  pub budget : left p.sizes p.order s.spot.path s.spot.next ≤ most

-- and the search is steady
pub record Underway {C : Type 0} (K : Structure C) (p : Problem C) (limit : C) (most : ℕ) (s : Search C) : Type 0 where
  pub holds : steady p.sizes p.order s.spot ≡ true
  pub leads : Leads K p limit most s

-- what a budget of k visits, of at most `most`, comes to
pub record Went {C : Type 0} (K : Structure C) (p : Problem C) (limit : C) (most k : ℕ) (r : Ran C) : Type 0 where
  pub still : ℕ
  pub counted : r.visits + still ≡ most
  pub underway : Underway K p limit still r.search
  pub all : ended p.sizes p.order r.search.spot ≡ false → r.visits ≡ k

module _ {C : Type 0} {K : Structure C} {p : Problem C} {floor : List ℕ → C} (G : Granted K p floor) (limit : C) where
  form : Shaped p
  form = shaped p G.formed

  floor_below : (y x : List ℕ) → length y ≤ length p.order → Point p x → take (length y) x ≡ y → K.at_most (floor y) (path_cost K p x) ≡ true
  floor_below y x l point begins =
      rw (← cost_setting form K x point) (G.admissible y (setting p x) l (full_setting form x point) (rw (in_order_setting form x point) begins))

  bar_below : (bar : C) (best : Option (List ℕ)) → Stands K p limit bar best → K.at_most bar limit ≡ true
  bar_below bar None h = grind (arith, G.lawful.total bar bar)
  bar_below bar (Some y) h = grind (arith, G.lawful.total bar limit)

  settled_leads : (most : ℕ) (path : List ℕ) (next : ℕ) (bar : C) (best : Option (List ℕ)) → fit p.sizes p.order path ≡ true → length path < length p.order
      → Covered K p bar (next ∷ path) → Stands K p limit bar best → left p.sizes p.order path next ≤ most
      → Leads K p limit most (record { spot = settled p.sizes p.order path next best; bar = bar })
  settled_leads most [] next bar best fits deep covered stands budget = record { covered = covered; stands = stands; budget = budget }
  settled_leads most (v ∷ path) next bar best fits deep covered stands budget =
      cond_both (eqb next (size_at p.sizes p.order (suc (length path)))) _ _ (λ spot. Leads K p limit most (record { spot = spot; bar = bar }))
      (λ e. settled_leads most path (suc v) bar best (and_parts (ltb v (size_at p.sizes p.order (length path))) (fit p.sizes p.order path) fits).1 (omega arith)
      (λ x point older. covered x point (older_back x path v next (omega (arith, point.0)) (omega (arith, eqb-true next _ e, point.1 (suc (length path)) deep)) older)) stands (omega arith))
      (λ e. record { covered = covered; stands = stands; budget = budget })

  visited_leads : (most : ℕ) (s : Search C) → ended p.sizes p.order s.spot ≡ false → Steady p.sizes p.order s.spot → Leads K p limit (suc most) s → Leads K p limit most (visited K p floor s)
  visited_leads most s goes_on steadily now =
      cond_both (eqb (length y) (length p.order)) _ _ (Leads K p limit most)
      (λ e. cond_both (cheaper K (path_cost K p y) s.bar) _ _ (Leads K p limit most)
      (λ c. pass (path_cost K p y) (Some y)
      (λ x point o. grind (arith, now.covered x point o, G.lawful.total (path_cost K p y) s.bar, G.lawful.transitive (path_cost K p y) s.bar (path_cost K p x)))
      (λ x point f. grind (arith, whole e x point f, G.lawful.total (path_cost K p y) (path_cost K p y))) (
        (grind (arith, nat_tests), λ d h. fit_at p.sizes p.order (next ∷ path) (grind (arith, nat_tests)) d (grind (arith, nat_tests, length_y))),
        refl,
        grind (arith, bar_below s.bar s.spot.incumbent now.stands, G.lawful.transitive),
        λ x point o. grind (arith, now.covered x point (older_from_earlier x (next ∷ path) (omega arith) o), G.lawful.transitive),
      ))
      (λ c. pass s.bar s.spot.incumbent now.covered (λ x point f. grind (arith, whole e x point f)) now.stands))
      (λ e. cond_both (cheaper K (floor y) s.bar) _ _ (Leads K p limit most)
      (λ c. deeper (grind (arith, nat_tests, length_y)))
      (λ c. pass s.bar s.spot.incumbent now.covered
      (λ x point f. grind (arith, floor_below y x (omega (arith, length_y)) point (rw length_y f), G.lawful.transitive))
      now.stands))
    where
      path : List ℕ
      path = s.spot.path

      next : ℕ
      next = s.spot.next

      y : List ℕ
      y = reverse (next ∷ path)

      length_y : length y ≡ suc (length path)
      length_y = length-reverse (next ∷ path)

      less : next < size_at p.sizes p.order (length path)
      less = steadily.more goes_on

      -- on to the next value, if the bar is right for what begins with this one too
      pass : (bar : C) (best : Option (List ℕ)) → Covered K p bar (next ∷ path) → ((x : List ℕ) → Point p x → Follows x (next ∷ path) → K.at_most bar (path_cost K p x) ≡ true)
          → Stands K p limit bar best → Leads K p limit most (record { spot = settled p.sizes p.order path (suc next) best; bar = bar })
      pass bar best covered here stands =
          settled_leads most path (suc next) bar best steadily.fits steadily.deep
          (λ x point older. ⊎_elim (covered x point) (here x point) (older_more x path next (omega (arith, point.0, steadily.deep)) older))
          stands (omega (arith, now.budget, left_more p.sizes p.order path next less))

      whole : eqb (length y) (length p.order) ≡ true → (x : List ℕ) → Point p x → Follows x (next ∷ path) → x ≡ y
      whole e x point f = sym (take_all (suc (length path)) x (grind (arith, nat_tests, length_y, point.0))) ∙ f

      deeper : suc (length path) < length p.order → Leads K p limit most (record { spot = record { path = next ∷ path; next = 0; incumbent = s.spot.incumbent }; bar = s.bar })
      deeper l =
          record {
            covered = λ x point o. now.covered x point (grind arith);
            stands = now.stands;
            budget = rw sub-zero (omega (arith, now.budget, left_more p.sizes p.order path next less, rest_more p.sizes p.order (suc (length path)) l));
          }

  visited_underway : (most : ℕ) (s : Search C) → ended p.sizes p.order s.spot ≡ false → Underway K p limit (suc most) s → Underway K p limit most (visited K p floor s)
  visited_underway most s e now =
      record {
        holds = steady_visited K p floor G.formed s e now.holds;
        leads = visited_leads most s e (steady_parts p.sizes p.order s.spot now.holds) now.leads;
      }

  -- a search that goes on has visits left
  some_left : (s : Search C) → ended p.sizes p.order s.spot ≡ false → Underway K p limit 0 s → ⊥
  some_left s e now =
      absurd (omega (arith, now.leads.budget, left_more p.sizes p.order s.spot.path s.spot.next ((steady_parts p.sizes p.order s.spot now.holds).more e)))

  pub underway_ran : (k most : ℕ) (s : Search C) → Underway K p limit most s → Went K p limit most k (ran K p floor k s)
  underway_ran zero most s now = record { still = most; counted = zero-add most; underway = now; all = λ _. refl }
  underway_ran (suc k) zero s now =
      ran_both K p floor k s (Went K p limit 0 (suc k))
      (λ e. record { still = 0; counted = refl; underway = now; all = λ f. grind arith })
      (λ e. absurd (some_left s e now))
  underway_ran (suc k) (suc most) s now =
      ran_both K p floor k s (Went K p limit (suc most) (suc k))
      (λ e. record { still = suc most; counted = zero-add (suc most); underway = now; all = λ f. grind arith })
      (λ e. let w = underway_ran k most (visited K p floor s) (visited_underway most s e now) in
      record { still = w.still; counted = omega (arith, w.counted); underway = w.underway; all = λ f. ap suc (w.all f) })

  pub underway_start : Underway K p limit (prefixes p.sizes p.order) (started limit)
  underway_start =
      let long : 0 < length p.order = omega (arith, form.order_length, G.some_variable) in
      record {
        holds = steady_start G.formed G.some_variable;
        leads = record {
          covered = λ x point o. grind arith;
          stands = refl;
          budget = rw sub-zero (omega (arith, rest_more p.sizes p.order 0 long));
        };
      }
