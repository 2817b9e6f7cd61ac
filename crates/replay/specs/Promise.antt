-- What every list of calls may rely on: the main promise.
use Rattle.std.specs.Prelude.{◌≡◌, ℕ, ◌<◌, ◌≤◌, min, true, List, [], ◌∷◌}
use Rattle.costs.specs.Structures.{Structure, Same, cheaper}
use Rattle.variables.specs.Assignments.{Full}
use Rattle.problems.specs.Problems.{cost}
use Rattle.search.specs.Finds.{Best, NothingBelow, prefixes}
use Rattle.jobs.specs.declared.stage.Stage.{Stage}
use Rattle.jobs.specs.declared.stage.Stage.TheVariants.{Closed, Draft, Running, Ended}
use Rattle.jobs.specs.declared.answer.Verdict.{Verdict}
use Rattle.jobs.specs.declared.answer.Verdict.TheVariants.{Best as BestShown, SoFar, NoneBelow, NothingYet}
use Rattle.jobs.specs.declared.answer.Report.{Report as Told}
use Rattle.jobs.specs.Standings.{most_shown}
use Rattle.replay.specs.declared.calls.Call.{Call}
use Rattle.replay.specs.declared.calls.Call.TheVariants.{Open, Enter, Amend, Prepare, Step, Report, Reopen, Close}
use Rattle.replay.specs.declared.calls.Answer.{Answer}
use Rattle.replay.specs.declared.calls.Answer.TheVariants.{Done, Entered, Stepped, Reported, Refused}
use Rattle.replay.specs.Shows.{shown_of}
use Rattle.replay.specs.Model.{Model, empty, kept, accepted}

module _ {C : Type 0} (K : Structure C) where
  -- how many nonempty prefixes the model's problem has
  abbrev pub prefixes_in : Model C → ℕ
  prefixes_in m = prefixes m.problem.sizes m.problem.order

  -- what is shown as still running has not been granted as many visits as there are nonempty prefixes
  abbrev pub Unfinished : Model C → Type 0
  Unfinished m = m.budgets < prefixes_in m

  -- a full setting, its cost, and that it is below the limit
  pub record Real (m : Model C) (shown : C) (s : List ℕ) : Type 0 where
    pub full : Full m.problem.sizes s
    pub its_cost : Same K shown (cost K m.problem s)
    pub below : cheaper K shown m.limit ≡ true

  -- what each verdict says of the model's problem
  abbrev pub VerdictHolds : Model C → Verdict → C → List ℕ → Type 0
  VerdictHolds m BestShown shown s = Best K m.problem m.limit shown s
  VerdictHolds m SoFar shown s = Real m shown s × Unfinished m
  VerdictHolds m NoneBelow shown s = NothingBelow K m.problem m.limit
  VerdictHolds m NothingYet shown s = Unfinished m

  -- the verdict holds, no full setting is below the bottom, and the visits are those that the steps answered
  pub record Honest (m : Model C) (r : Told C) (s : List ℕ) : Type 0 where
    pub verdict : VerdictHolds m r.verdict r.cost s
    pub bottom : NothingBelow K m.problem r.bottom
    pub visits : r.visits ≡ min m.visits most_shown

  -- a step leaves the job Running, then unfinished, or Ended
  abbrev pub RunsOn : Stage → Model C → Type 0
  RunsOn Closed m = ⊥
  RunsOn Draft m = ⊥
  RunsOn Running m = Unfinished m
  RunsOn Ended m = Unit {0}

  -- what an answer shows, held against the model after it
  abbrev pub Holds : Model C → Answer C → Type 0
  Holds m Done = Unit {0}
  Holds m (Entered k) = Unit {0}
  Holds m (Stepped s) = (m.visits ≤ prefixes_in m) × RunsOn s.stage m
  Holds m (Reported r s) = Honest m r (shown_of s)
  Holds m (Refused e) = Unit {0}

  -- the call brings the part of the last accepted open
  abbrev pub Brings : Model C → Call C → Type 0
  Brings m (Open sizes p) = Unit {0}
  Brings m (Enter scope c p) = p ≡ m.part
  Brings m (Amend k tuple c p) = p ≡ m.part
  Brings m (Prepare order limit p) = p ≡ m.part
  Brings m (Step budget p) = p ≡ m.part
  Brings m (Report q p) = p ≡ m.part
  Brings m Reopen = Unit {0}
  Brings m Close = Unit {0}

  -- every accepted call but open brings the area of the last accepted open
  abbrev pub Proper : Model C → List (Call C) → List (Answer C) → Type 0
  Proper m [] rs = Unit {0}
  Proper m (c ∷ cs) [] = Unit {0}
  Proper m (c ∷ cs) (r ∷ rs) = (accepted r ≡ true → Brings m c) × Proper (kept K m c r) cs rs

  -- every answer holds
  abbrev pub Truthful : Model C → List (Call C) → List (Answer C) → Type 0
  Truthful m [] rs = Unit {0}
  Truthful m (c ∷ cs) [] = Unit {0}
  Truthful m (c ∷ cs) (r ∷ rs) = Holds (kept K m c r) r × Truthful (kept K m c r) cs rs

-- the main promise: a proper list of calls is answered truthfully, from a model that begins empty
abbrev pub Promise : {C : Type 0} → Structure C → List (Call C) → List (Answer C) → Type 0
Promise K calls answers = Proper K (empty K) calls answers → Truthful K (empty K) calls answers
