-- What the calls answer and do that plan a job: prepare, step, report and reopen.
use Rattle.std.specs.Prelude.{◌≡◌, ℕ, ◌+◌, ◌≤◌, cond, not, ◌||◌, List, [], ◌∷◌, ◌++◌, map, length, Some, None, Option, ◌==◌, nat_lt, slice_index_or, slice_set}
use Rattle.costs.specs.Structures.{Structure}
use Rattle.variables.specs.declared.refusal.Refusal.TheVariants.{Source, Room, Budget, Buffer}
use Rattle.variables.specs.Refusals.{Row}
use Rattle.variables.specs.Rules.{order_rows}
use Rattle.variables.specs.declared.plain.Setting.{Setting}
use Rattle.variables.specs.Assignments.{of}
use Rattle.problems.specs.Problems.{Problem}
use Rattle.variables.specs.Records.{values_of}
use Rattle.problems.specs.Outlines.{Outline, ordered, problem}
use Rattle.floors.specs.Settings.{upto}
use Rattle.floors.specs.Rules.{Rules, Fills, frame}
use Rattle.search.specs.Searches.{Spot, Search, start, ran}
use Rattle.search.specs.Finds.{setting}
use Rattle.jobs.specs.declared.stage.Stage.{Stage}
use Rattle.jobs.specs.declared.stage.Stage.TheVariants.{Running, Ended}
use Rattle.jobs.specs.declared.stage.Call.TheVariants.{Prepare, Step, Report, Reopen}
use Rattle.jobs.specs.declared.answer.Stepped.{Stepped}
use Rattle.jobs.specs.declared.answer.Verdict.{Verdict}
use Rattle.jobs.specs.declared.answer.Verdict.TheVariants.{Best, SoFar, NoneBelow, NothingYet}
use Rattle.jobs.specs.declared.answer.Report.{Report as Shown}
use Rattle.jobs.specs.declared.job.Job.{Job}
use Rattle.jobs.specs.Stages.{is_ended, stage_rows}
use Rattle.jobs.specs.Calls.{length_rows}
use Rattle.jobs.specs.Standings.{Standing, draft, moved, standing, Stands}

-- the limit in cell 0, and as bar in cell 1
abbrev pub limited : {C : Type 0} → List C → C → List C
limited area limit = slice_set (slice_set area 0 limit) 1 limit

-- the same problem, to be settled in this order
abbrev pub arranged : {C : Type 0} → Problem C → List ℕ → Problem C
arranged p order = record { sizes = p.sizes; functions = p.functions; order = order }

-- the search has the values that the spot says, and the content of cell 1 as bar
abbrev pub search_in : {C : Type 0} → Structure C → Spot → List C → Search C
search_in K s area = record { spot = s; bar = slice_index_or area 1 K.neutral }

-- a step has a budget of 1 to 10,000 visits
abbrev pub budget_rows : ℕ → List Row
budget_rows budget = record { when = budget == 0 || nat_lt 10000 budget; refusal = Budget } ∷ []

abbrev pub step_rows : Standing → ℕ → ℕ → List Row
step_rows j budget cells = stage_rows j.stage Step ++ (length_rows j.noted cells ++ budget_rows budget)

-- the buffer has a place for each variable
abbrev pub buffer_rows : ℕ → ℕ → List Row
buffer_rows variables places = record { when = not (places == variables); refusal = Buffer } ∷ []

abbrev pub report_rows : Standing → ℕ → ℕ → List Row
report_rows j places cells = stage_rows j.stage Report ++ (length_rows j.noted cells ++ buffer_rows (length j.outline.sizes) places)

abbrev pub reopen_rows : Standing → List Row
reopen_rows j = stage_rows j.stage Reopen

-- the number by which a verdict is known
abbrev pub verdict_number : Verdict → ℕ
verdict_number Best = 0
verdict_number SoFar = 1
verdict_number NoneBelow = 2
verdict_number NothingYet = 3

-- best and none are said of a search that ended, the other two of one that runs
abbrev pub verdict_of : Stage → Option (List ℕ) → Verdict
verdict_of stage (Some y) = cond (is_ended stage) Best SoFar
verdict_of stage None = cond (is_ended stage) NoneBelow NothingYet

-- the values of the first variables, as many as a buffer has places
abbrev pub listed : Setting → List ℕ → List ℕ
listed s buffer = map (of (values_of s)) (upto 0 (length buffer))

-- a buffer with what was found, if something was
abbrev pub listing : Option Setting → List ℕ → List ℕ
listing (Some s) buffer = listed s buffer
listing None buffer = buffer

-- an incumbent is written by variable number; without one the buffer stays as it is
abbrev pub written : {C : Type 0} → Problem C → Option (List ℕ) → List ℕ → List ℕ
written p (Some y) buffer = setting p y
written p None buffer = buffer

module _ {C S : Type 0} (R : Rules C S) where
  -- the source does not suit; its cells do not fit behind the tables
  abbrev pub source_rows : S → Outline → ℕ → List Row
  source_rows s o cells =
      record { when = not (R.suits s (frame o)); refusal = Source } ∷
      record { when = nat_lt cells (o.used + R.room s (frame o)); refusal = Room } ∷ []

  abbrev pub prepare_rows : Standing → S → List ℕ → ℕ → List Row
  prepare_rows j s order cells =
      stage_rows j.stage Prepare ++ (length_rows j.noted cells ++ (order_rows (length j.outline.sizes) order ++ source_rows s (ordered j.outline order) cells))

  -- the limit stands in cells 0 and 1, the source has filled its cells behind the tables, and the search is at its start
  pub record Prepared (b a : Job C S) (area area' : List C) (order : List ℕ) (limit : C) : Type 0 where
    pub standing_is : standing a ≡ record { stage = Running; outline = ordered (standing b).outline order; noted = (standing b).noted; spot = start; visits = 0 }
    pub fills : Fills R (ordered (standing b).outline order) b.source a.source (limited area limit) area' (standing b).outline.used
    pub problem_is : problem (standing a).outline area' ≡ arranged (problem (standing b).outline area) order

  -- the source's cells stand behind the tables as it needs them
  abbrev pub Filled : Job C S → List C → Type 0
  Filled j area = R.filled j.source (standing j).outline area (standing j).outline.used

  -- what the source means by the floor of a prefix of this job
  abbrev pub floor_of : Job C S → List C → List ℕ → C
  floor_of j area = R.meaning j.source (problem (standing j).outline area)

  module _ (K : Structure C) where
    -- only cell 1 may change; the visits and where they lead are those of the search, while the source's cells stand
    pub record Steps (b a : Job C S) (area area' : List C) (budget : ℕ) (answer : Stepped) : Type 0 where
      pub few : answer.visits ≤ budget
      pub stands : Stands a (moved (standing b) (standing a).spot answer.visits) b.source
      pub stage_is : answer.stage ≡ (standing a).stage
      pub cells_are : area' ≡ slice_set area 1 (slice_index_or area' 1 K.neutral)
      pub rests : (standing b).stage ≡ Ended → (answer.visits ≡ 0) × (a ≡ b) × (area' ≡ area)
      pub problem_is : problem (standing a).outline area' ≡ problem (standing b).outline area
      pub runs : Filled b area → ran K (problem (standing b).outline area) (floor_of b area) budget (search_in K (standing b).spot area)
          ≡ record { visits = answer.visits; search = search_in K (standing a).spot area' }

    -- the verdict, the incumbent, the content of cell 1, the floor of the empty prefix, and the visits since prepare
    pub record Reports (j : Job C S) (area : List C) (buffer buffer' : List ℕ) (shown : Shown C) : Type 0 where
      pub verdict_is : shown.verdict ≡ verdict_of (standing j).stage (standing j).spot.incumbent
      pub buffer_is : buffer' ≡ written (problem (standing j).outline area) (standing j).spot.incumbent buffer
      pub cost_is : shown.cost ≡ slice_index_or area 1 K.neutral
      pub visits_are : shown.visits ≡ (standing j).visits
      pub bottom_is : Filled j area → shown.bottom ≡ floor_of j area []

-- a draft again, with its functions
abbrev pub Reopened : {C S : Type 0} → Job C S → Job C S → Type 0
Reopened b a = Stands a (draft (standing b).outline (standing b).noted) b.source
