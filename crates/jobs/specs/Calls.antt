-- What each call answers and does: its rows of the table of refusals, and what an accepted one leaves.
use Rattle.std.specs.Prelude.{◌≡◌, ℕ, not, ◌||◌, List, [], ◌∷◌, ◌++◌, length, take, drop, replicate, ◌==◌, nat_lt, slice_set}
use Rattle.variables.specs.declared.refusal.Refusal.TheVariants.{Area, AreaLength}
use Rattle.variables.specs.Refusals.{Row}
use Rattle.variables.specs.Rules.{sizes_rows}
use Rattle.variables.specs.Assignments.{cells}
use Rattle.problems.specs.Problems.{with_function, with_cost}
use Rattle.problems.specs.Outlines.{opened, entered, entering, amending, cell_of, problem}
use Rattle.jobs.specs.declared.stage.Call.{Call}
use Rattle.jobs.specs.declared.stage.Call.TheVariants.{Open, Enter, Amend}
use Rattle.jobs.specs.declared.job.Job.{Job}
use Rattle.jobs.specs.Stages.{stage_rows}
use Rattle.jobs.specs.Standings.{Standing, draft, standing, Stands}

-- an area has 2 to 16,384 cells
abbrev pub area_rows : ℕ → List Row
area_rows cells = record { when = nat_lt cells 2 || nat_lt 16384 cells; refusal = Area } ∷ []

-- the area that a call brings is as long as the one that was noted
abbrev pub length_rows : ℕ → ℕ → List Row
length_rows noted cells = record { when = not (cells == noted); refusal = AreaLength } ∷ []

-- what a call that brings an area to an open job is asked first
abbrev pub call_rows : Standing → Call → ℕ → List Row
call_rows j call cells = stage_rows j.stage call ++ length_rows j.noted cells

abbrev pub open_rows : Standing → List ℕ → ℕ → List Row
open_rows j sizes cells = stage_rows j.stage Open ++ (sizes_rows sizes ++ area_rows cells)

abbrev pub enter_rows : Standing → List ℕ → ℕ → List Row
enter_rows j scope cells = stage_rows j.stage Enter ++ (length_rows j.noted cells ++ entering j.outline cells scope)

abbrev pub amend_rows : Standing → ℕ → List ℕ → ℕ → List Row
amend_rows j k tuple cells = stage_rows j.stage Amend ++ (length_rows j.noted cells ++ amending j.outline k tuple)

module _ {C S : Type 0} where
  -- a draft with these sizes and no functions, which notes the area's length
  abbrev pub Opened : Job C S → Job C S → List ℕ → ℕ → Type 0
  Opened b a sizes cells = Stands a (draft (opened sizes) cells) b.source

  -- one function more, under the next number; the cost stands in every cell of its table, and no other cell changed
  pub record Entered (b a : Job C S) (area area' : List C) (scope : List ℕ) (cost : C) (number : ℕ) : Type 0 where
    pub number_is : number ≡ length (standing b).outline.functions
    pub stands : Stands a (draft (entered (standing b).outline scope) (standing b).noted) b.source
    pub cells_are : area' ≡ take (standing b).outline.used area ++ (replicate (cells (standing b).outline.sizes scope) cost ++ drop (standing a).outline.used area)
    pub problem_is : problem (standing a).outline area' ≡ with_function (problem (standing b).outline area) scope cost

  -- one cell holds the cost, and so the function has it at the tuple; nothing else changed
  pub record Amended (b a : Job C S) (area area' : List C) (k : ℕ) (tuple : List ℕ) (cost : C) : Type 0 where
    pub job_is : a ≡ b
    pub cells_are : area' ≡ slice_set area (cell_of (standing b).outline k tuple) cost
    pub problem_is : problem (standing a).outline area' ≡ with_cost (problem (standing b).outline area) k tuple cost
