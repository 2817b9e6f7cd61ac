-- What an accepted call says of the stage that took it.
use Rattle.std.proofs.Common.{◌≡◌, ℕ, true, false, List, [], ◌∷◌, None, refl}
use Rattle.std.specs.List.{AllByRecursion}
use Rattle.std.proofs.lemmas.Bool.{not-false}
use Rattle.variables.specs.Refusals.{Row, first_of}
use Rattle.variables.proofs.Rows.{rows_passed}
use Rattle.floors.specs.Rules.{Rules}
use Rattle.jobs.specs.declared.stage.Stage.{Stage}
use Rattle.jobs.specs.declared.stage.Stage.TheVariants.{Closed, Draft, Running, Ended}
use Rattle.jobs.specs.declared.stage.Call.TheVariants.{Step}
use Rattle.jobs.specs.Stages.{is_draft, takes}
use Rattle.jobs.specs.Standings.{Standing}
use Rattle.jobs.specs.Calls.{enter_rows, amend_rows}
use Rattle.jobs.specs.Planning.{prepare_rows, step_rows, report_rows, reopen_rows}
use Rattle.replay.proofs.Standings.{prepared}

-- no row of a call that was accepted holds
pub passed : (rows : List Row) → first_of rows ≡ None → AllByRecursion (λ row. row.when ≡ false) rows
passed [] h = tt
passed (row ∷ rows) h =
    let both = rows_passed row.when row.refusal (first_of rows) h in
    (both.0, passed rows both.1)

steppable : (stage : Stage) → takes stage Step ≡ true → prepared stage ≡ true
steppable Closed h = h
steppable Draft h = h
steppable Running h = refl
steppable Ended h = refl

module _ (s : Standing) where
  pub entered_draft : (scope : List ℕ) (cells : ℕ) → first_of (enter_rows s scope cells) ≡ None → is_draft s.stage ≡ true
  entered_draft scope cells h = not-false _ (passed (enter_rows s scope cells) h).0

  pub amended_draft : (k : ℕ) (tuple : List ℕ) (cells : ℕ) → first_of (amend_rows s k tuple cells) ≡ None → is_draft s.stage ≡ true
  amended_draft k tuple cells h = not-false _ (passed (amend_rows s k tuple cells) h).0

  pub prepared_draft : {C S : Type 0} (R : Rules C S) (source : S) (order : List ℕ) (cells : ℕ) → first_of (prepare_rows R s source order cells) ≡ None → is_draft s.stage ≡ true
  prepared_draft R source order cells h = not-false _ (passed (prepare_rows R s source order cells) h).0

  pub stepped_on : (budget cells : ℕ) → first_of (step_rows s budget cells) ≡ None → prepared s.stage ≡ true
  stepped_on budget cells h = steppable s.stage (not-false _ (passed (step_rows s budget cells) h).0)

  pub reported_on : (places cells : ℕ) → first_of (report_rows s places cells) ≡ None → prepared s.stage ≡ true
  reported_on places cells h = steppable s.stage (not-false _ (passed (report_rows s places cells) h).0)

  pub reopened_on : first_of (reopen_rows s) ≡ None → prepared s.stage ≡ true
  reopened_on h = steppable s.stage (not-false _ (passed (reopen_rows s) h).0)
