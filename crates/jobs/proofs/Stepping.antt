-- From what the parts of `step` did to what it promises.
use Rattle.std.proofs.Common.{◌≡◌, ℕ, zero, suc, ◌+◌, ◌≤◌, min, true, List, length, get_or, set, sym, refl, ap, ◌∙◌, subst, ap₂, arith}
use Rattle.std.proofs.lemmas.List.{set-get_or, get_or-set_same}
use Rattle.std.proofs.lemmas.Bool.{cond-true}
use Rattle.costs.specs.Structures.{Structure}
use Rattle.problems.specs.Problems.{Problem}
use Rattle.problems.specs.Outlines.{problem}
use Rattle.floors.specs.Settings.{Formed}
use Rattle.floors.specs.Rules.{Rules}
use Rattle.search.specs.Searches.{Spot, Search, ran, ended, steady}
use Rattle.search.specs.Places.{Runs}
use Rattle.jobs.specs.declared.stage.Stage.{Stage}
use Rattle.jobs.specs.declared.stage.Stage.TheVariants.{Running, Ended}
use Rattle.jobs.specs.declared.job.Job.{Job}
use Rattle.jobs.specs.Standings.{Standing, standing, moved}
use Rattle.jobs.specs.Planning.{search_in, Steps}
use Rattle.jobs.proofs.Forms.{write_before}

-- a search that has ended makes no visit
ran_none : {C : Type 0} (K : Structure C) (p : Problem C) (floor : List ℕ → C) (k : ℕ) (s : Search C) → ended p.sizes p.order s.spot ≡ true
    → ran K p floor k s ≡ record { visits = 0; search = s }
ran_none K p floor zero s h = refl
ran_none K p floor (suc k) s h = rw (h, ran)

module _ {C S : Type 0} (R : Rules C S) (K : Structure C) (b : Job C S) (area : List C) (budget : ℕ) where
  pub steps_rest : (standing b).stage ≡ Ended → ended (standing b).outline.sizes (standing b).outline.order (standing b).spot ≡ true → (standing b).visits ≤ 4294967295
      → Steps R K b b area area budget (record { visits = 0; stage = Ended })
  steps_rest staged over shown =
      let o = (standing b).outline in
      let s = (standing b).spot in
      let still : (standing b).visits ≡ min ((standing b).visits + 0) 4294967295 = omega arith in
      let there : standing b ≡ moved (standing b) s 0 =
      ap₂ (λ (x : Stage) (n : ℕ). record { stage = x; outline = o; noted = (standing b).noted; spot = s; visits = n }) (staged ∙ sym (cond-true (ended o.sizes o.order s) Ended Running over)) still in
      record {
        few = omega arith;
        stands = record { standing_is = there; source_is = refl };
        stage_is = sym staged;
        cells_are = sym (set-get_or area 1 K.neutral);
        rests = λ _. (refl, refl, refl);
        problem_is = refl;
        runs = λ _. ran_none K (problem o area) (R.meaning b.source (problem o area)) budget (search_in K s area) over;
      }

  module _ (a : Job C S) (s : Spot) (first bar : C) (visits at : ℕ) (there : standing a ≡ moved (standing b) s visits) (source : a.source ≡ b.source) (few : visits ≤ budget)
      (goes : (standing b).stage ≡ Ended → ⊥) (two : 2 ≤ length area) (begins : at ≡ (standing b).outline.used) (bar_is : first ≡ get_or area 1 K.neutral)
      (run : Runs R K (standing b).outline b.source area at budget (record { spot = (standing b).spot; bar = first }) (record { spot = s; bar = bar }) visits)
      (formed : Formed (problem (standing b).outline area)) (still : steady (standing b).outline.sizes (standing b).outline.order (standing b).spot ≡ true) where
    pub steps : Steps R K b a area (set area 1 bar) budget (record { visits = visits; stage = (standing a).stage })
    steps =
        let o = (standing b).outline in
        let p = problem o area in
        let floor : List ℕ → C = R.meaning b.source p in
        let spot : (standing a).spot ≡ s = ap (λ (j : Standing). j.spot) there in
        let kept : get_or (set area 1 bar) 1 K.neutral ≡ bar = get_or-set_same area 1 bar K.neutral (omega arith) in
        record {
          few = few;
          stands = record { standing_is = there ∙ ap (λ s. moved (standing b) s visits) (sym spot); source_is = source };
          stage_is = refl;
          cells_are = ap (set area 1) (sym kept);
          rests = λ e. absurd (goes e);
          problem_is = ap (λ (j : Standing). problem j.outline (set area 1 bar)) there ∙ write_before b.plain.shape o.order area 1 bar (omega arith);
          runs = λ filled.
              let run' = run (subst (R.filled b.source o area) (sym begins) filled) formed still in
              ap (λ c. ran K p floor budget (record { spot = (standing b).spot; bar = c })) (sym bar_is) ∙ run'
              ∙ ap₂ (λ (t : Spot) (c : C). record { visits = visits; search = record { spot = t; bar = c } }) (sym spot) (sym kept);
        }
