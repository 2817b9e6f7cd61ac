-- Which call each stage takes.
use Rattle.std.specs.Prelude.{ℕ, Bool, true, false, not, ◌||◌, List, [], ◌∷◌}
use Rattle.variables.specs.declared.refusal.Refusal.TheVariants.{Stage as WrongStage}
use Rattle.variables.specs.Refusals.{Row}
use Rattle.jobs.specs.declared.stage.Stage.{Stage}
use Rattle.jobs.specs.declared.stage.Stage.TheVariants.{Closed, Draft, Running, Ended}
use Rattle.jobs.specs.declared.stage.Call.{Call}
use Rattle.jobs.specs.declared.stage.Call.TheVariants.{Open, Load, Enter, Amend, Prepare, Step, Report, Reopen}

-- the number by which a stage is known
abbrev pub stage_number : Stage → ℕ
stage_number Closed = 0
stage_number Draft = 1
stage_number Running = 2
stage_number Ended = 3

abbrev pub is_closed : Stage → Bool
is_closed Closed = true
is_closed Draft = false
is_closed Running = false
is_closed Ended = false

abbrev pub is_draft : Stage → Bool
is_draft Closed = false
is_draft Draft = true
is_draft Running = false
is_draft Ended = false

abbrev pub is_running : Stage → Bool
is_running Closed = false
is_running Draft = false
is_running Running = true
is_running Ended = false

abbrev pub is_ended : Stage → Bool
is_ended Closed = false
is_ended Draft = false
is_ended Running = false
is_ended Ended = true

-- open and load begin with a closed job; enter, amend and prepare take a draft; step, report and reopen take one that was prepared
abbrev pub takes : Stage → Call → Bool
takes stage Open = is_closed stage
takes stage Load = is_closed stage
takes stage Enter = is_draft stage
takes stage Amend = is_draft stage
takes stage Prepare = is_draft stage
takes stage Step = is_running stage || is_ended stage
takes stage Report = is_running stage || is_ended stage
takes stage Reopen = is_running stage || is_ended stage

-- the calls that begin with a closed job
abbrev pub opens : Call → Bool
opens Open = true
opens Load = true
opens Enter = false
opens Amend = false
opens Prepare = false
opens Step = false
opens Report = false
opens Reopen = false

abbrev pub stage_rows : Stage → Call → List Row
stage_rows stage call = record { when = not (takes stage call); refusal = WrongStage } ∷ []
