-- What the main promise comes to at four calls: they bring the opened area, so a verdict that says best says it of the problem that was opened.
use Rattle.std.specs.Prelude.{◌≡◌, ℕ, List, [], ◌∷◌, vec_items, Vec}
use Rattle.std.specs.declared.alloc.Global.{Global}
use Rattle.costs.specs.Structures.{Structure}
use Rattle.problems.specs.Problems.{Problem}
use Rattle.search.specs.Finds.{Best, NothingBelow}
use Rattle.jobs.specs.declared.answer.Stepped.{Stepped as Moved}
use Rattle.jobs.specs.declared.answer.Verdict.TheVariants.{Best as BestShown, NoneBelow}
use Rattle.jobs.specs.declared.answer.Report.{Report as Told}
use Rattle.replay.specs.declared.calls.Part.{Part}
use Rattle.replay.specs.declared.calls.Shown.{Shown}
use Rattle.replay.specs.declared.calls.Call.{Call}
use Rattle.replay.specs.declared.calls.Call.TheVariants.{Open, Prepare, Step, Report}
use Rattle.replay.specs.declared.calls.Answer.{Answer}
use Rattle.replay.specs.declared.calls.Answer.TheVariants.{Done, Stepped, Reported}
use Rattle.replay.specs.Shows.{shown_of}
use Rattle.replay.specs.Promise.{Promise}

module _ {C : Type 0} where
  -- open, prepare, step and report, on one area
  abbrev pub four_calls : Vec ℕ Global → Vec ℕ Global → C → ℕ → Part → Part → List (Call C)
  four_calls sizes order limit budget area buffer = Open sizes area ∷ (Prepare order limit area ∷ (Step budget area ∷ (Report buffer area ∷ [])))

  -- all accepted
  abbrev pub four_answers : Moved → Told C → Shown → List (Answer C)
  four_answers moved told shown = Done ∷ (Done ∷ (Stepped moved ∷ (Reported told shown ∷ [])))

  -- variables of these sizes along this order, and no functions
  abbrev pub bare : Vec ℕ Global → Vec ℕ Global → Problem C
  bare sizes order = record { sizes = vec_items sizes; functions = []; order = vec_items order }

-- best is said of the best setting, and none where there is none
abbrev pub PromiseIsMeant : Type 0 → Type 0
PromiseIsMeant C = (K : Structure C) (sizes order : Vec ℕ Global) (limit : C) (budget : ℕ) (area buffer : Part) (moved : Moved) (told : Told C) (shown : Shown) →
    Promise K (four_calls sizes order limit budget area buffer) (four_answers moved told shown)
    → (told.verdict ≡ BestShown → Best K (bare sizes order) limit told.cost (shown_of shown)) × (told.verdict ≡ NoneBelow → NothingBelow K (bare sizes order) limit)
