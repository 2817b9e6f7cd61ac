-- An accepted report is honest.
use Rattle.std.proofs.Common.{◌≡◌, ℕ, ◌<◌, Bool, true, false, List, [], Some, None, Option, sym, refl, ap, ◌∙◌, subst, arith}
use Rattle.costs.specs.Structures.{Structure, Lawful, cheaper}
use Rattle.variables.specs.Assignments.{Full}
use Rattle.problems.specs.Problems.{Problem, cost}
use Rattle.problems.specs.Outlines.{problem}
use Rattle.floors.specs.Rules.{Rules, Sound}
use Rattle.search.specs.Searches.{Search}
use Rattle.search.specs.Finds.{Best, NothingBelow, setting, prefixes}
use Rattle.search.proofs.Results.{visits_are_few, incumbent_is_real, best_is_found, none_is_below, bottom_is_below}
use Rattle.jobs.specs.declared.stage.Stage.{Stage}
use Rattle.jobs.specs.declared.stage.Stage.TheVariants.{Closed, Draft, Running, Ended}
use Rattle.jobs.specs.declared.answer.Report.{Report as Told}
use Rattle.jobs.specs.declared.job.Job.{Job}
use Rattle.jobs.specs.Stages.{is_ended}
use Rattle.jobs.specs.Standings.{standing}
use Rattle.jobs.specs.Planning.{Reports, verdict_of, written, floor_of, search_in}
use Rattle.replay.specs.Model.{Model}
use Rattle.replay.specs.Promise.{VerdictHolds, Honest}
use Rattle.replay.proofs.Standings.{prepared, kept_by}
use Rattle.replay.proofs.Agreements.{Agrees, granted}

module _ {C : Type 0} (K : Structure C) where
  -- what a search has found out of a problem, below a limit and with a bottom
  pub record Found (limit bottom : C) (budgets : ℕ) (end : Bool) (s : Search C) (p : Problem C) : Type 0 where
    pub best : end ≡ true → (y : List ℕ) → s.spot.incumbent ≡ Some y → Best K p limit s.bar (setting p y)
    pub none : end ≡ true → s.spot.incumbent ≡ None → NothingBelow K p limit
    pub real : (y : List ℕ) → s.spot.incumbent ≡ Some y → Full p.sizes (setting p y) × (s.bar ≡ cost K p (setting p y)) × (cheaper K s.bar limit ≡ true)
    pub less : end ≡ false → budgets < prefixes p.sizes p.order
    pub low : NothingBelow K p bottom

  verdict_so : (m : Model C) (stage : Stage) (s : Search C) (bottom : C) (buffer : List ℕ) (found : Option (List ℕ)) → s.spot.incumbent ≡ found → prepared stage ≡ true
      → Found m.limit bottom m.budgets (is_ended stage) s m.problem → VerdictHolds K m (verdict_of stage found) s.bar (written m.problem found buffer)
  verdict_so m Closed s bottom buffer found e on f = absurd (grind (arith, on))
  verdict_so m Draft s bottom buffer found e on f = absurd (grind (arith, on))
  verdict_so m Running s bottom buffer (Some y) e on f =
      let facts = f.real y e in
      (record { full = facts.0; its_cost = ap K.stands facts.1; below = facts.2 }, f.less refl)
  verdict_so m Running s bottom buffer None e on f = f.less refl
  verdict_so m Ended s bottom buffer (Some y) e on f = f.best refl y e
  verdict_so m Ended s bottom buffer None e on f = f.none refl e

  module _ {S : Type 0} (R : Rules C S) (lawful : Lawful K) (sound : Sound K R) where
    found_by : (m : Model C) (j : Job C S) (area : List C) → prepared (standing j).stage ≡ true → Agrees K R m (standing j) j.source area
        → Found m.limit (floor_of R j area []) m.budgets (is_ended (standing j).stage) (search_in K (standing j).spot area) m.problem
    found_by m j area on h =
        let p = problem (standing j).outline area in
        let s = search_in K (standing j).spot area in
        let G = granted K R lawful sound m j area h on in
        let reached = (h.going on).reached in
        let end = (kept_by j.plain on).ended_is in
        let all : Found m.limit (floor_of R j area []) m.budgets (is_ended (standing j).stage) s p = record {
          best = λ e. best_is_found C K p _ G m.limit m.budgets m.visits s reached (sym end ∙ e);
          none = λ e. none_is_below C K p _ G m.limit m.budgets m.visits s reached (sym end ∙ e);
          real = (incumbent_is_real C K p _ G m.limit m.budgets m.visits s reached).0;
          less = λ e. ((visits_are_few C K p _ G m.limit m.budgets m.visits s reached).1 (sym end ∙ e)).1;
          low = bottom_is_below C K p _ G.admissible;
        } in
        subst (Found m.limit (floor_of R j area []) m.budgets (is_ended (standing j).stage) s) h.problem_is all

    pub reports : (m : Model C) (j : Job C S) (area : List C) (buffer buffer' : List ℕ) (shown : Told C) → Reports R K j area buffer buffer' shown → prepared (standing j).stage ≡ true
        → Agrees K R m (standing j) j.source area → Honest K m shown buffer'
    reports m j area buffer buffer' shown e on h =
        let f = found_by m j area on h in
        let going = h.going on in
        record {
          verdict = rw (e.verdict_is, e.cost_is, e.buffer_is, h.problem_is) (verdict_so m (standing j).stage (search_in K (standing j).spot area) (floor_of R j area []) buffer (standing j).spot.incumbent refl on f);
          bottom = rw (e.bottom_is going.filled) f.low;
          visits = e.visits_are ∙ going.visits_are;
        }
