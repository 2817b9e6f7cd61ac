-- From what the parts of `enter` did to what it promises.
use Rattle.std.proofs.Common.{◌≡◌, ℕ, ◌+◌, ◌-◌, ◌≤◌, List, ◌++◌, length, take, drop, replicate, None, sym, ap, ◌∙◌, ap₂, arith}
use borrow.Rule.Slice.PartMut.{put_mid}
use Rattle.std.proofs.lemmas.Bool.Decides.{nat_tests}
use Rattle.variables.specs.Refusals.{first_of}
use Rattle.variables.specs.Assignments.{cells}
use Rattle.problems.specs.Outlines.{Outline, entered, entering, problem}
use Rattle.problems.proofs.Amendments.{enter_problem}
use Rattle.jobs.specs.declared.job.Job.{Job}
use Rattle.jobs.specs.Standings.{Standing, standing, draft}
use Rattle.jobs.specs.Calls.{Entered}
use Rattle.jobs.proofs.Fills.{filled_part}

-- a table that is not refused has its cells in the area
room_there : (o : Outline) (area : ℕ) (scope : List ℕ) → first_of (entering o area scope) ≡ None → o.used + cells o.sizes scope ≤ area
room_there o area scope h = grind (arith, nat_tests)

module _ {C S : Type 0} (b a : Job C S) (area part : List C) (scope : List ℕ) (cost : C) (number start end : ℕ) (shape : Outline)
    (rows : first_of (entering (standing b).outline (length area) scope) ≡ None)
    (numbered : number ≡ length (standing b).outline.functions)
    (shaped : shape ≡ entered (standing b).outline scope) (there : standing a ≡ draft shape (standing b).noted) (source : a.source ≡ b.source)
    (begins : start ≡ (standing b).outline.used) (ends : end ≡ shape.used)
    (filled : part ≡ replicate (length (take (end - start) (drop start area))) cost) where
  pub entered_is : Entered b a area (put_mid start (end - start) area part) scope cost number
  entered_is =
      let o = (standing b).outline in
      let n = cells o.sizes scope in
      let stands : standing a ≡ draft (entered o scope) (standing b).noted = there ∙ ap (λ x. draft x (standing b).noted) shaped in
      let outline_is : (standing a).outline ≡ entered o scope = ap (λ (j : Standing). j.outline) stands in
      let ends_so : end ≡ (standing a).outline.used = ends ∙ ap (λ (j : Standing). j.outline.used) (sym there) in
      let used : (standing a).outline.used ≡ o.used + n = ap (λ (x : Outline). x.used) outline_is in
      let room = room_there o (length area) scope rows in
      let put : put_mid start (end - start) area part ≡ take start area ++ (replicate n cost ++ drop end area) = filled_part area cost part start end n (omega arith) (omega arith) filled in
      let cells_are = put ∙ ap₂ (λ s e. take s area ++ (replicate n cost ++ drop e area)) begins ends_so in
      record {
        number_is = numbered;
        stands = record { standing_is = stands; source_is = source };
        cells_are = cells_are;
        problem_is = ap₂ problem outline_is (cells_are ∙ ap (λ e. take o.used area ++ (replicate n cost ++ drop e area)) used) ∙ enter_problem o b.plain.shape.laid area scope cost room;
      }
