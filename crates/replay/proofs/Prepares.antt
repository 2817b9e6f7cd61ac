-- An accepted prepare puts the search at its start.
use Rattle.std.proofs.Common.{◌≡◌, ℕ, ◌<◌, ◌≤◌, true, List, length, get_or, take, set, None, sym, refl, ap, ◌∙◌, subst, arith, length-set}
use Rattle.std.proofs.lemmas.Bool.{not-false}
use Rattle.std.proofs.lemmas.List.{get_or-set_same}
use Rattle.costs.specs.Structures.{Structure}
use Rattle.variables.specs.Refusals.{first_of}
use Rattle.problems.specs.Problems.{Problem}
use Rattle.problems.specs.Outlines.{ordered, problem}
use Rattle.variables.proofs.Slots.{in_use}
use Rattle.floors.specs.Rules.{Rules, frame}
use Rattle.search.specs.Searches.{Ran, start, started}
use Rattle.jobs.specs.declared.stage.Stage.TheVariants.{Running}
use Rattle.jobs.specs.declared.job.Job.{Job}
use Rattle.jobs.specs.Stages.{is_draft}
use Rattle.jobs.specs.Standings.{Standing, standing}
use Rattle.jobs.specs.Planning.{prepare_rows, Prepared, limited, arranged}
use Rattle.replay.specs.Model.{Model}
use Rattle.replay.proofs.Standings.{prepared, kept_by, tables_after}
use Rattle.replay.proofs.Agreements.{Agrees, agrees_there}
use Rattle.replay.proofs.Accepted.{passed}
use Rattle.replay.proofs.Drafts.{draft_open}

module _ {C S : Type 0} (K : Structure C) (R : Rules C S) where
  -- the standing of a job that was just prepared
  abbrev ready : Standing → List ℕ → Standing
  ready s order = record { stage = Running; outline = ordered s.outline order; noted = s.noted; spot = start; visits = 0 }

  abbrev at_start : C → Ran C
  at_start limit = record { visits = 0; search = started limit }

  -- cells 0 and 1 stand below what the source wrote
  bar_is : (area area' : List C) (limit : C) (used : ℕ) → take used area' ≡ take used (limited area limit) → 2 ≤ used → 2 ≤ length area → get_or area' 1 K.neutral ≡ limit
  bar_is area area' limit used same two long =
      let there : 1 < length (set area 0 limit) = simp length-set (omega arith) in
      sym (in_use used area' 1 K.neutral (omega arith)) ∙ ap (λ (xs : List C). get_or xs 1 K.neutral) same ∙ in_use used (limited area limit) 1 K.neutral (omega arith)
      ∙ get_or-set_same (set area 0 limit) 1 limit K.neutral there

  pub prepares : (m m' : Model C) (b a : Job C S) (area area' : List C) (order : List ℕ) (limit : C)
      → first_of (prepare_rows R (standing b) b.source order (length area)) ≡ None → Prepared R b a area area' order limit → is_draft (standing b).stage ≡ true
      → Agrees K R m (standing b) b.source area → length area' ≡ length area
      → m' ≡ record { problem = arranged m.problem order; limit = limit; visits = 0; budgets = 0; part = m.part } → Agrees K R m' (standing a) a.source area'
  prepares m m' b a area area' order limit rows e on h long q =
      let there = ready (standing b) order in
      let noted : length area' ≡ (standing b).noted = long ∙ h.noted_is (draft_open (standing b).stage on) in
      let suits : R.suits b.source (frame (ordered (standing b).outline order)) ≡ true = not-false _ (passed (prepare_rows R (standing b) b.source order (length area)) rows).1.1.1.0 in
      let inside = subst (λ (s : Standing). s.outline.used ≤ s.noted) e.standing_is (kept_by a.plain (ap (λ (s : Standing). prepared s.stage) e.standing_is)).inside in
      let two = tables_after b.plain in
      let bar = bar_is area area' limit (standing b).outline.used e.fills.before two (omega arith) in
      agrees_there K R m' a there a.source area' (record { standing_is = e.standing_is; source_is = refl })
      (rw q (record {
        problem_is = subst (λ (s : Standing). problem s.outline area' ≡ arranged m.problem order) e.standing_is (e.problem_is ∙ ap (λ (x : Problem C). arranged x order) h.problem_is);
        noted_is = λ _. noted;
        going = λ _. record {
          filled = e.fills.filled;
          suits = e.fills.same_suits _ ∙ suits;
          reached = ap at_start (sym bar);
          visits_are = refl;
        };
      }))
