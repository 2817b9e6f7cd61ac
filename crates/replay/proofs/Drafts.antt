-- The calls on a draft, and those that make or leave one, keep the agreement.
use Rattle.std.proofs.Common.{◌≡◌, ℕ, true, false, List, [], length, sym, refl, ap, ◌∙◌, subst, arith}
use Rattle.costs.specs.Structures.{Structure}
use Rattle.problems.specs.Problems.{Problem, with_function, with_cost}
use Rattle.problems.specs.Outlines.{problem}
use Rattle.floors.specs.Rules.{Rules}
use Rattle.jobs.specs.declared.stage.Stage.{Stage}
use Rattle.jobs.specs.declared.stage.Stage.TheVariants.{Closed, Draft, Running, Ended}
use Rattle.jobs.specs.declared.job.Job.{Job}
use Rattle.jobs.specs.Stages.{is_closed, is_draft}
use Rattle.jobs.specs.Standings.{Standing, standing, draft, Stands}
use Rattle.jobs.specs.Calls.{Opened, Entered, Amended}
use Rattle.jobs.specs.Planning.{Reopened}
use Rattle.replay.specs.declared.calls.Part.{Part}
use Rattle.replay.specs.Model.{Model}
use Rattle.replay.proofs.Agreements.{Agrees, agrees_there}

draft_is : (stage : Stage) → is_draft stage ≡ true → stage ≡ Draft
draft_is Closed h = cc
draft_is Draft h = refl
draft_is Running h = cc
draft_is Ended h = cc

pub draft_open : (stage : Stage) → is_draft stage ≡ true → is_closed stage ≡ false
draft_open Closed h = sym h
draft_open Draft h = refl
draft_open Running h = refl
draft_open Ended h = refl

module _ {C S : Type 0} (K : Structure C) (R : Rules C S) where
  abbrev On : Model C → Job C S → List C → Type 0
  On m j area = Agrees K R m (standing j) j.source area

  -- the search of a draft is not under way
  drafted : (m : Model C) (j : Job C S) (there : Standing) (source : S) (area : List C) → Stands j there source → there.stage ≡ Draft
      → problem there.outline area ≡ m.problem → length area ≡ there.noted → On m j area
  drafted m j there source area h at p n =
      agrees_there K R m j there source area h
      (record { problem_is = p; noted_is = λ _. n; going = λ on. absurd (grind (arith, on, at)) })

  pub opens : (m : Model C) (b a : Job C S) (sizes : List ℕ) (p : Part) (area : List C) (n : ℕ) → Opened b a sizes n → length area ≡ n
      → m.problem ≡ record { sizes = sizes; functions = []; order = [] } → On m a area
  opens m b a sizes p area n h e q = drafted m a _ b.source area h refl (sym q) e

  pub enters : (m m' : Model C) (b a : Job C S) (area area' : List C) (scope : List ℕ) (cost : C) (number : ℕ) → Entered b a area area' scope cost number → is_draft (standing b).stage ≡ true → On m b area
      → length area' ≡ length area → m'.problem ≡ with_function m.problem scope cost → On m' a area'
  enters m m' b a area area' scope cost number e on h long q =
      drafted m' a (draft _ (standing b).noted) b.source area' e.stands refl
      (subst (λ (t : Standing). problem t.outline area' ≡ m'.problem) e.stands.standing_is (e.problem_is ∙ ap (λ (x : Problem C). with_function x scope cost) h.problem_is ∙ sym q))
      (long ∙ h.noted_is (draft_open (standing b).stage on))

  pub amends : (m m' : Model C) (b a : Job C S) (area area' : List C) (k : ℕ) (tuple : List ℕ) (cost : C) → Amended b a area area' k tuple cost → is_draft (standing b).stage ≡ true → On m b area
      → length area' ≡ length area → m'.problem ≡ with_cost m.problem k tuple cost → On m' a area'
  amends m m' b a area area' k tuple cost e on h long q =
      drafted m' a (standing b) b.source area'
      (record { standing_is = ap standing e.job_is; source_is = ap (λ (x : Job C S). x.source) e.job_is })
      (draft_is (standing b).stage on)
      (subst (λ (x : Job C S). problem (standing x).outline area' ≡ m'.problem) e.job_is (e.problem_is ∙ ap (λ (x : Problem C). with_cost x k tuple cost) h.problem_is ∙ sym q))
      (long ∙ h.noted_is (draft_open (standing b).stage on))

  pub reopens : (m : Model C) (b a : Job C S) (area : List C) → Reopened b a → is_closed (standing b).stage ≡ false → On m b area → On m a area
  reopens m b a area e on h = drafted m a (draft (standing b).outline (standing b).noted) b.source area e refl h.problem_is (h.noted_is on)
