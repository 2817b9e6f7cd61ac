-- An accepted step leads the search on by its budget.
use Rattle.std.proofs.Common.{◌≡◌, ℕ, ◌+◌, ◌<◌, ◌≤◌, min, Bool, true, false, cond, ◌≢◌, List, length, get_or, sym, refl, ap, ◌∙◌, subst, arith, length-set}
use Rattle.std.proofs.lemmas.List.{get_or-set_other}
use Rattle.costs.specs.Structures.{Structure, Lawful}
use Rattle.problems.specs.Problems.{Problem}
use Rattle.problems.specs.Outlines.{Outline, problem}
use Rattle.floors.specs.Rules.{Rules, Sound}
use Rattle.search.specs.Searches.{ended}
use Rattle.search.specs.Finds.{prefixes}
use Rattle.search.proofs.Budgets.{reached_more}
use Rattle.search.proofs.Results.{visits_are_few}
use Rattle.jobs.specs.declared.stage.Stage.{Stage}
use Rattle.jobs.specs.declared.stage.Stage.TheVariants.{Closed, Draft, Running, Ended}
use Rattle.jobs.specs.declared.answer.Stepped.{Stepped}
use Rattle.jobs.specs.declared.job.Job.{Job}
use Rattle.jobs.specs.Stages.{is_ended}
use Rattle.jobs.specs.Standings.{Standing, standing, moved, most_shown}
use Rattle.jobs.specs.Planning.{Steps}
use Rattle.replay.specs.Model.{Model}
use Rattle.replay.specs.Promise.{Unfinished, RunsOn, prefixes_in}
use Rattle.replay.proofs.Standings.{prepared, not_closed, kept_by, tables_after}
use Rattle.replay.proofs.Agreements.{Agrees, agrees_there, granted}

-- counts that stop at the most that is shown
stops : (x v most : ℕ) → min (min x most + v) most ≡ min (x + v) most
stops x v most = omega arith

stage_prepared : (b : Bool) → prepared (cond b Ended Running) ≡ true
stage_prepared true = refl
stage_prepared false = refl

module _ {C S : Type 0} (K : Structure C) (R : Rules C S) (lawful : Lawful K) (sound : Sound K R) where
  pub steps : (m m' : Model C) (b a : Job C S) (area area' : List C) (budget : ℕ) (answer : Stepped)
      → Steps R K b a area area' budget answer → prepared (standing b).stage ≡ true
      → Agrees K R m (standing b) b.source area
      → m' ≡ record { problem = m.problem; limit = m.limit; visits = m.visits + answer.visits; budgets = m.budgets + budget; part = m.part } → Agrees K R m' (standing a) a.source area'
  steps m m' b a area area' budget answer e on h q =
      let o = (standing b).outline in
      let was = h.going on in
      let two = tables_after b.plain in
      let long : length area' ≡ length area = ap length e.cells_are ∙ length-set _ 1 _ in
      let same-outline : (standing a).outline ≡ o = ap (λ (s : Standing). s.outline) e.stands.standing_is in
      let same : problem o area' ≡ problem o area = subst (λ (x : Outline). problem x area' ≡ problem o area) same-outline e.problem_is in
      let filled = sound.stays b.source o area area' o.used long same
      (λ k d low high. let other : k ≢ 1 = omega arith in ap (λ (xs : List C). get_or xs k d) e.cells_are ∙ get_or-set_other area 1 k _ d other) was.filled in
      let reached = reached_more K (problem o area) (R.meaning b.source (problem o area)) m.limit m.budgets m.visits budget answer.visits _ _ was.reached (e.runs was.filled) in
      agrees_there K R m' a (moved (standing b) (standing a).spot answer.visits) b.source area' e.stands
      (rw q (record {
        problem_is = same ∙ h.problem_is;
        noted_is = λ _. long ∙ h.noted_is (not_closed (standing b).stage on);
        going = λ _. record {
          filled = filled;
          suits = was.suits;
          reached = rw same reached;
          visits_are = ap (λ (x : ℕ). min (x + answer.visits) most_shown) was.visits_are ∙ stops m.visits answer.visits most_shown;
        };
      }))

  -- the stage of a job that runs or has ended
  runs_on : (stage : Stage) (m : Model C) → prepared stage ≡ true → (is_ended stage ≡ false → Unfinished K m) → RunsOn K stage m
  runs_on Closed m on less = grind (arith, on)
  runs_on Draft m on less = grind (arith, on)
  runs_on Running m on less = less refl
  runs_on Ended m on less = tt

  -- the visits are few, and a job that runs is unfinished
  counted : (m : Model C) (j : Job C S) (area : List C) → prepared (standing j).stage ≡ true → Agrees K R m (standing j) j.source area → (m.visits ≤ prefixes_in K m) × RunsOn K (standing j).stage m
  counted m j area on h =
      let few = visits_are_few C K _ _ (granted K R lawful sound m j area h on) m.limit m.budgets m.visits _ (h.going on).reached in
      let same : prefixes (standing j).outline.sizes (standing j).outline.order ≡ prefixes_in K m = ap (λ (p : Problem C). prefixes p.sizes p.order) h.problem_is in
      let less = λ (e : is_ended (standing j).stage ≡ false). subst (λ (n : ℕ). m.budgets < n) same (few.1 (sym (kept_by j.plain on).ended_is ∙ e)).1 in
      (subst (λ (n : ℕ). m.visits ≤ n) same few.0, runs_on (standing j).stage m on less)

  -- so what a step answers holds
  pub stepped : (m : Model C) (b a : Job C S) (area area' : List C) (budget : ℕ) (answer : Stepped) → Steps R K b a area area' budget answer → Agrees K R m (standing a) a.source area'
      → (m.visits ≤ prefixes_in K m) × RunsOn K answer.stage m
  stepped m b a area area' budget answer e h =
      let on = ap (λ (s : Standing). prepared s.stage) e.stands.standing_is ∙ stage_prepared (ended (standing b).outline.sizes (standing b).outline.order (standing a).spot) in
      rw e.stage_is (counted m a area' on h)
