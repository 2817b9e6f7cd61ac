-- What every call on a job that was prepared has passed.
use Rattle.std.proofs.Common.{◌≡◌, ℕ, true, false, ◌||◌, List, length, None, sym, refl, ap, ◌∙◌, arith}
use Rattle.variables.specs.Refusals.{first_of}
use Rattle.variables.specs.Rules.{is_order}
use Rattle.problems.specs.Outlines.{outline, problem}
use Rattle.floors.specs.Settings.{Formed}
use Rattle.search.specs.Searches.{ended, steady}
use Rattle.search.specs.Places.{spot_of}
use Rattle.jobs.specs.declared.stage.Stage.{Stage}
use Rattle.jobs.specs.declared.stage.Stage.TheVariants.{Closed, Draft, Running, Ended}
use Rattle.jobs.specs.declared.stage.Call.{Call}
use Rattle.jobs.specs.declared.job.Plain.{Plain}
use Rattle.jobs.specs.Stages.{is_draft, is_running, is_ended, opens, takes}
use Rattle.jobs.specs.Standings.{standing_of}
use Rattle.jobs.specs.Calls.{call_rows}
use Rattle.jobs.proofs.Passed.{taken, not_closed, inside}
use Rattle.jobs.proofs.Sounds.{has_order, is_steady, has_ended}
use Rattle.jobs.proofs.Forms.{formed}

begun_not_draft : (stage : Stage) → (is_running stage || is_ended stage) ≡ true → is_draft stage ≡ false
begun_not_draft Closed h = refl
begun_not_draft Draft h = cc
begun_not_draft Running h = refl
begun_not_draft Ended h = refl

module _ (p : Plain) (call : Call) (cells : ℕ) (later : opens call ≡ false) (goes : takes p.stage call ≡ (is_running p.stage || is_ended p.stage))
    (passed : first_of (call_rows (standing_of p) call cells) ≡ None) where
  not_draft : is_draft p.stage ≡ false
  not_draft = begun_not_draft p.stage (sym goes ∙ taken p call cells later passed)

  order_is : is_order (length (outline p.shape).sizes) (outline p.shape).order ≡ true
  order_is = has_order p.stage (outline p.shape) p.noted (spot_of p.shape.order p.place) (not_closed p call cells later passed) p.sound not_draft

  pub still : steady (outline p.shape).sizes (outline p.shape).order (spot_of p.shape.order p.place) ≡ true
  still = is_steady p.stage (outline p.shape) p.noted (spot_of p.shape.order p.place) (not_closed p call cells later passed) p.sound not_draft

  pub over : p.stage ≡ Ended → ended (outline p.shape).sizes (outline p.shape).order (spot_of p.shape.order p.place) ≡ true
  over e = has_ended p.stage (outline p.shape) p.noted (spot_of p.shape.order p.place) (not_closed p call cells later passed) p.sound not_draft (ap is_ended e)

  pub formed_is : {C : Type 0} (area : List C) → length area ≡ cells → Formed (problem (outline p.shape) area)
  formed_is area e = formed p.shape area order_is (omega (arith, (inside p call cells later passed).1, e))
