-- The model agrees with the job and its area.
use Rattle.std.proofs.Common.{◌≡◌, min, true, false, List, length, sym, refl, subst, arith}
use Rattle.costs.specs.Structures.{Structure, Lawful}
use Rattle.problems.specs.Outlines.{problem}
use Rattle.floors.specs.Rules.{Rules, Sound, frame}
use Rattle.search.specs.Theorems.{Granted, Reached}
use Rattle.jobs.specs.declared.job.Job.{Job}
use Rattle.jobs.specs.Stages.{is_closed}
use Rattle.jobs.specs.Planning.{floor_of, search_in}
use Rattle.jobs.specs.Standings.{Standing, standing, closed, most_shown, Stands}
use Rattle.replay.specs.Model.{Model, empty}
use Rattle.replay.proofs.Standings.{prepared, not_closed, kept_by, formed}

module _ {C S : Type 0} (K : Structure C) (R : Rules C S) where
  -- the source's cells stand, and the search is where the budgets of the accepted steps lead it
  pub record Going (m : Model C) (s : Standing) (source : S) (area : List C) : Type 0 where
    pub filled : R.filled source s.outline area s.outline.used
    pub suits : R.suits source (frame s.outline) ≡ true
    pub reached : Reached K (problem s.outline area) (R.meaning source (problem s.outline area)) m.limit m.budgets m.visits (search_in K s.spot area)
    pub visits_are : s.visits ≡ min m.visits most_shown

  -- the problem is the model's, the area is as long as noted, and once prepared the search is under way
  pub record Agrees (m : Model C) (s : Standing) (source : S) (area : List C) : Type 0 where
    pub problem_is : problem s.outline area ≡ m.problem
    pub noted_is : is_closed s.stage ≡ false → length area ≡ s.noted
    pub going : prepared s.stage ≡ true → Going m s source area

  pub agrees_there : (m : Model C) (j : Job C S) (there : Standing) (source : S) (area : List C) → Stands j there source → Agrees m there source area → Agrees m (standing j) j.source area
  agrees_there m j there source area h a =
      subst (λ (s : S). Agrees m (standing j) s area) (sym h.source_is) (subst (λ (t : Standing). Agrees m t source area) (sym h.standing_is) a)

  -- a job that is closed has the empty problem
  pub agrees_closed : (j : Job C S) (source : S) (area : List C) → Stands j closed source → Agrees (empty K) (standing j) j.source area
  agrees_closed j source area h = agrees_there (empty K) j closed source area h (record { problem_is = refl; noted_is = λ n. absurd (grind (arith, n)); going = λ n. absurd (grind (arith, n)) })

  -- what the theorems on searches ask for is granted
  pub granted : Lawful K → Sound K R → (m : Model C) (j : Job C S) (area : List C) → Agrees m (standing j) j.source area → prepared (standing j).stage ≡ true
      → Granted K (problem (standing j).outline area) (floor_of R j area)
  granted lawful sound m j area h on =
      let form = formed j.plain area on (h.noted_is (not_closed (standing j).stage on)) in
      record {
        lawful = lawful;
        formed = form;
        some_variable = (kept_by j.plain on).some;
        admissible = sound.admissible j.source (standing j).outline area form (h.going on).suits;
      }
