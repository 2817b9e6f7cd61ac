-- A run of calls: there are jobs and cells in between, such that each call and its answer are what that call promises.
use Rattle.std.specs.Prelude.{◌≡◌, ℕ, List, [], ◌∷◌, length, vec_items}
use Rattle.costs.specs.Structures.{Structure}
use Rattle.variables.specs.Refusals.{Answers, first_of}
use Rattle.floors.specs.Rules.{Rules}
use Rattle.jobs.specs.declared.job.Job.{Job}
use Rattle.jobs.specs.Standings.{standing, closed, Stands}
use Rattle.jobs.specs.Calls.{open_rows, Opened, enter_rows, Entered, amend_rows, Amended}
use Rattle.jobs.specs.Planning.{prepare_rows, Prepared, step_rows, Steps, report_rows, Reports, reopen_rows, Reopened}
use Rattle.replay.specs.declared.calls.Part.{Part}
use Rattle.replay.specs.declared.calls.Call.{Call}
use Rattle.replay.specs.declared.calls.Call.TheVariants.{Open, Enter, Amend, Prepare, Step, Report, Reopen, Close}
use Rattle.replay.specs.declared.calls.Answer.{Answer}
use Rattle.replay.specs.declared.calls.Answer.TheVariants.{Done}
use Rattle.replay.specs.Parts.{lent, placed}
use Rattle.replay.specs.Shows.{done, numbered, moved, told}

-- a job with all the cells and bytes that calls may bring
pub record World (C S : Type 0) : Type 0 where
  pub job : Job C S
  pub cells : List C
  pub bytes : List ℕ

-- as many as before, and only the part p changed
abbrev pub Only : {X : Type 0} → Part → List X → List X → Type 0
Only p xs ys = (length ys ≡ length xs) × (ys ≡ placed p xs (lent p ys))

module _ {C S : Type 0} (K : Structure C) (R : Rules C S) where
  abbrev pub Unchanged : World C S → World C S → Part → Type 0
  Unchanged w v p = (v.job ≡ w.job) × (lent p v.cells ≡ lent p w.cells)

  -- the call's own promise, of the parts that it brought; every other cell and byte is as it was
  abbrev pub Link : World C S → Call C → Answer C → World C S → Type 0
  Link w (Open sizes p) r v =
      done r (λ x. Answers (first_of (open_rows (standing w.job) (vec_items sizes) (length (lent p w.cells)))) x
      (λ _. Opened w.job v.job (vec_items sizes) (length (lent p w.cells))) (v.job ≡ w.job))
      × (v.cells ≡ w.cells) × (v.bytes ≡ w.bytes)
  Link w (Enter scope c p) r v =
      numbered r (λ x. Answers (first_of (enter_rows (standing w.job) (vec_items scope) (length (lent p w.cells)))) x
      (Entered w.job v.job (lent p w.cells) (lent p v.cells) (vec_items scope) c) (Unchanged w v p))
      × Only p w.cells v.cells × (v.bytes ≡ w.bytes)
  Link w (Amend k tuple c p) r v =
      done r (λ x. Answers (first_of (amend_rows (standing w.job) k (vec_items tuple) (length (lent p w.cells)))) x
      (λ _. Amended w.job v.job (lent p w.cells) (lent p v.cells) k (vec_items tuple) c) (Unchanged w v p))
      × Only p w.cells v.cells × (v.bytes ≡ w.bytes)
  Link w (Prepare order limit p) r v =
      done r (λ x. Answers (first_of (prepare_rows R (standing w.job) w.job.source (vec_items order) (length (lent p w.cells)))) x
      (λ _. Prepared R w.job v.job (lent p w.cells) (lent p v.cells) (vec_items order) limit) (Unchanged w v p))
      × Only p w.cells v.cells × (v.bytes ≡ w.bytes)
  Link w (Step budget p) r v =
      moved r (λ x. Answers (first_of (step_rows (standing w.job) budget (length (lent p w.cells)))) x
      (Steps R K w.job v.job (lent p w.cells) (lent p v.cells) budget) (Unchanged w v p))
      × Only p w.cells v.cells × (v.bytes ≡ w.bytes)
  Link w (Report q p) r v =
      told r (lent q v.bytes) (λ x. Answers (first_of (report_rows (standing w.job) (length (lent q w.bytes)) (length (lent p w.cells)))) x
      (Reports R K w.job (lent p w.cells) (lent q w.bytes) (lent q v.bytes)) (lent q v.bytes ≡ lent q w.bytes))
      × (v.job ≡ w.job) × (v.cells ≡ w.cells) × Only q w.bytes v.bytes
  Link w Reopen r v =
      done r (λ x. Answers (first_of (reopen_rows (standing w.job))) x (λ _. Reopened w.job v.job) (v.job ≡ w.job))
      × (v.cells ≡ w.cells) × (v.bytes ≡ w.bytes)
  Link w Close r v =
      (r ≡ Done) × Stands v.job closed w.job.source × (v.cells ≡ w.cells) × (v.bytes ≡ w.bytes)

  abbrev pub Chain : World C S → List (Call C) → List (Answer C) → World C S → Type 0
  Chain w [] [] v = v ≡ w
  Chain w [] (r ∷ rs) v = ⊥
  Chain w (c ∷ cs) [] v = ⊥
  Chain w (c ∷ cs) (r ∷ rs) v = (m : World C S) × (Link w c r m × Chain m cs rs v)

-- the calls of a job that was made new and Closed
pub record Run {C S : Type 0} (K : Structure C) (R : Rules C S) (source : S) (cells cells' : List C) (bytes bytes' : List ℕ) (calls : List (Call C)) (answers : List (Answer C)) : Type 0 where
  pub first : Job C S
  pub last : Job C S
  pub fresh : Stands first closed source
  pub links : Chain K R (record { job = first; cells = cells; bytes = bytes }) calls answers (record { job = last; cells = cells'; bytes = bytes' })
