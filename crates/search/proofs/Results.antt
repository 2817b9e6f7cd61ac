-- What every search finds, and how long it takes.
use Rattle.std.proofs.Common.{◌≡◌, ℕ, ◌<◌, ◌≤◌, true, false, eqb, List, [], ◌∷◌, length, Some, None, sym, refl, ap, ◌∙◌, subst, inl, arith}
use Rattle.std.proofs.lemmas.Bool.{and_parts, eqb-true}
use Rattle.costs.specs.Structures.{Structure, cheaper}
use Rattle.variables.specs.Assignments.{Full}
use Rattle.problems.specs.Problems.{Problem, cost}
use Rattle.floors.specs.Settings.{in_order}
use Rattle.floors.specs.Floors.{paid_floor}
use Rattle.floors.specs.Shapes.{Shaped, shaped}
use Rattle.floors.specs.Climbs.{admissible}
use Rattle.floors.specs.Admissions.{paid_climbs}
use Rattle.search.specs.Searches.{Search, started, size_at, ended}
use Rattle.search.specs.Finds.{setting, prefixes, Best, NothingBelow}
use Rattle.search.specs.Theorems.{Granted, Reached, VisitsAreFew, IncumbentIsReal, BestIsFound, NoneIsBelow, BottomIsBelow, SteadyThroughout, PaidIsGranted}
use Rattle.search.proofs.Points.{Point, point_in_order, full_setting, in_order_setting, cost_in_order, cost_setting}
use Rattle.search.proofs.Positions.{Older, left_more}
use Rattle.search.proofs.Steadiness.{steady_parts, steady_start, steady_ran}
use Rattle.search.proofs.Underways.{Stands, Underway, Went, underway_ran, underway_start}

older_at_end : {C : Type 0} (p : Problem C) (path : List ℕ) (next : ℕ) → length path < length p.order → length path ≡ 0 → next ≡ size_at p.sizes p.order 0 → (x : List ℕ) → Point p x → Older x (next ∷ path)
older_at_end p [] next deep none e x point = inl (refl, rw e (point.1 0 deep))
older_at_end p (v ∷ path) next deep none e x point = absurd (omega arith)

module _ {C : Type 0} {K : Structure C} {p : Problem C} {floor : List ℕ → C} (G : Granted K p floor) {limit : C} {most : ℕ} {s : Search C} (now : Underway K p limit most s) where
  form : Shaped p
  form = shaped p G.formed

  -- nothing is cheaper than the bar of a search that ended
  nothing_cheaper : ended p.sizes p.order s.spot ≡ true → (t : List ℕ) → Full p.sizes t → K.at_most s.bar (cost K p t) ≡ true
  nothing_cheaper e t full =
      let x : List ℕ = in_order p.order t in
      let point = point_in_order form t full in
      let both = and_parts (eqb (length s.spot.path) 0) (eqb s.spot.next (size_at p.sizes p.order 0)) e in
      let deep = (steady_parts p.sizes p.order s.spot now.holds).deep in
      rw (cost_in_order form K t)
      (now.leads.covered x point (older_at_end p s.spot.path s.spot.next deep (eqb-true (length s.spot.path) 0 both.0) (eqb-true s.spot.next (size_at p.sizes p.order 0) both.1) x point))

  stands_some : (y : List ℕ) → s.spot.incumbent ≡ Some y → Stands K p limit s.bar (Some y)
  stands_some y e = subst (Stands K p limit s.bar) e now.leads.stands

  pub unfound : s.spot.incumbent ≡ None → s.bar ≡ limit
  unfound e = subst (Stands K p limit s.bar) e now.leads.stands

  pub real : (y : List ℕ) → s.spot.incumbent ≡ Some y → Full p.sizes (setting p y) × (s.bar ≡ cost K p (setting p y)) × (cheaper K s.bar limit ≡ true)
  real y e =
      let stands = stands_some y e in
      (full_setting form y stands.0, stands.1 ∙ sym (cost_setting form K y stands.0), stands.2)

  pub best : ended p.sizes p.order s.spot ≡ true → (y : List ℕ) → s.spot.incumbent ≡ Some y → Best K p limit s.bar (setting p y)
  best end y e =
      let stands = stands_some y e in
      let facts = real y e in
      record {
        full = facts.0;
        its_cost = ap K.stands facts.1;
        below = facts.2;
        cheapest = λ t full. grind (arith, nothing_cheaper end t full);
        earliest = λ t full same. rw (in_order_setting form y stands.0)
            (grind (arith, stands.3 (in_order p.order t) (point_in_order form t full), cost_in_order form K t, same, G.lawful.total s.bar s.bar, G.lawful.order_stands));
      }

  pub none : ended p.sizes p.order s.spot ≡ true → s.spot.incumbent ≡ None → NothingBelow K p limit
  none end e t full =
      let bar = unfound e in
      grind (arith, nothing_cheaper end t full)

module _ {C : Type 0} {K : Structure C} {p : Problem C} {floor : List ℕ → C} (G : Granted K p floor) (limit : C) (k visits : ℕ) (s : Search C) (reached : Reached K p floor limit k visits s) where
  -- what a search that has been reached keeps to
  pub reached_went : Went K p limit (prefixes p.sizes p.order) k (record { visits = visits; search = s })
  reached_went = subst (Went K p limit (prefixes p.sizes p.order) k) reached (underway_ran G limit k (prefixes p.sizes p.order) (started limit) (underway_start G limit))

  pub reached_few : visits ≤ prefixes p.sizes p.order
  reached_few = omega (arith, reached_went.counted)

  pub reached_on : ended p.sizes p.order s.spot ≡ false → (visits ≡ k) × (k < prefixes p.sizes p.order)
  reached_on e =
      let now = reached_went.underway in
      let less = left_more p.sizes p.order s.spot.path s.spot.next ((steady_parts p.sizes p.order s.spot now.holds).more e) in
      let all : visits ≡ k = reached_went.all e in
      (all, omega (arith, reached_went.counted, now.leads.budget))

pub visits_are_few : (C : Type 0) → VisitsAreFew C
visits_are_few C K p floor G limit k visits s reached = (reached_few G limit k visits s reached, reached_on G limit k visits s reached)

pub incumbent_is_real : (C : Type 0) → IncumbentIsReal C
incumbent_is_real C K p floor G limit k visits s reached = (real G (reached_went G limit k visits s reached).underway, unfound G (reached_went G limit k visits s reached).underway)

pub best_is_found : (C : Type 0) → BestIsFound C
best_is_found C K p floor G limit k visits s reached = best G (reached_went G limit k visits s reached).underway

pub none_is_below : (C : Type 0) → NoneIsBelow C
none_is_below C K p floor G limit k visits s reached = none G (reached_went G limit k visits s reached).underway

pub bottom_is_below : (C : Type 0) → BottomIsBelow C
bottom_is_below C K p floor admissible t full = grind (arith, admissible [] t (omega arith) full refl)

pub steady_throughout : (C : Type 0) → SteadyThroughout C
steady_throughout C K p floor formed some limit k s = (steady_start formed some, steady_ran K p floor formed k s)

pub paid_is_granted : (C : Type 0) → PaidIsGranted C
paid_is_granted C K p lawful formed some =
    record { lawful = lawful; formed = formed; some_variable = some; admissible = admissible lawful p (shaped p formed) (paid_floor K p) (paid_climbs lawful p) }
