-- What a call on an open job has passed: its stage takes it, and the area is as long as noted.
use Rattle.std.proofs.Common.{◌≡◌, ℕ, ◌≤◌, true, false, not, List, ◌++◌, length, None, refl, arith}
use Rattle.std.proofs.lemmas.Bool.{not-false, eqb-true}
use Rattle.variables.specs.declared.refusal.Refusal.TheVariants.{Stage as WrongStage}
use Rattle.variables.specs.Refusals.{Row, first_of}
use Rattle.problems.specs.Outlines.{outline}
use Rattle.variables.proofs.Rows.{no_row, rows_passed}
use Rattle.search.specs.Places.{spot_of}
use Rattle.jobs.specs.declared.stage.Stage.{Stage}
use Rattle.jobs.specs.declared.stage.Stage.TheVariants.{Closed, Draft, Running, Ended}
use Rattle.jobs.specs.declared.stage.Call.{Call}
use Rattle.jobs.specs.declared.stage.Call.TheVariants.{Open, Load, Enter, Amend, Prepare, Step, Report, Reopen}
use Rattle.jobs.specs.declared.job.Plain.{Plain}
use Rattle.jobs.specs.Stages.{is_closed, opens, takes}
use Rattle.jobs.specs.Standings.{standing_of}
use Rattle.jobs.specs.Calls.{length_rows, call_rows}
use Rattle.jobs.proofs.Rows.{rows_then}
use Rattle.jobs.proofs.Sounds.{some_variable, tables_inside}
use Rattle.jobs.proofs.Forms.{before_tables}

-- only open and load are taken by a closed job
taken_open : (stage : Stage) (call : Call) → opens call ≡ false → takes stage call ≡ true → is_closed stage ≡ false
taken_open Draft call h k = refl
taken_open Running call h k = refl
taken_open Ended call h k = refl
taken_open Closed Open h k = cc
taken_open Closed Load h k = cc
taken_open Closed Enter h k = cc
taken_open Closed Amend h k = cc
taken_open Closed Prepare h k = cc
taken_open Closed Step h k = cc
taken_open Closed Report h k = cc
taken_open Closed Reopen h k = cc

module _ (p : Plain) (call : Call) (cells : ℕ) (later : opens call ≡ false) (passed : first_of (call_rows (standing_of p) call cells) ≡ None) where
  both : (not (takes p.stage call) ≡ false) × (first_of (length_rows p.noted cells) ≡ None)
  both = rows_passed (not (takes p.stage call)) WrongStage (first_of (length_rows p.noted cells)) passed

  pub taken : takes p.stage call ≡ true
  taken = not-false _ both.0

  pub not_closed : is_closed p.stage ≡ false
  not_closed = taken_open p.stage call later taken

  pub noted_is : cells ≡ p.noted
  noted_is = eqb-true cells p.noted (not-false _ (no_row _ _ both.1))

  pub some : 1 ≤ length (outline p.shape).sizes
  some = some_variable p.stage (outline p.shape) p.noted (spot_of p.shape.order p.place) not_closed p.sound

  -- every table lies in the area, behind the two first cells
  pub inside : (2 ≤ (outline p.shape).used) × ((outline p.shape).used ≤ cells)
  inside = (before_tables p.shape, omega (arith, noted_is, tables_inside p.stage (outline p.shape) p.noted (spot_of p.shape.order p.place) not_closed p.sound))

  -- so it is up to the call's own rows
  pub own_rows : (rows : List Row) → first_of (call_rows (standing_of p) call cells ++ rows) ≡ first_of rows
  own_rows rows = rows_then (call_rows (standing_of p) call cells) rows passed
