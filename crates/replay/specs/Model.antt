-- What is known of a job from the calls alone: their arguments, which were accepted, and the visits that steps answered.
use Rattle.std.specs.Prelude.{ℕ, ◌+◌, Bool, true, false, cond, [], vec_items}
use Rattle.costs.specs.Structures.{Structure}
use Rattle.problems.specs.Problems.{Problem, with_function, with_cost}
use Rattle.jobs.specs.Planning.{arranged}
use Rattle.replay.specs.declared.calls.Part.{Part}
use Rattle.replay.specs.declared.calls.Call.{Call}
use Rattle.replay.specs.declared.calls.Call.TheVariants.{Open, Enter, Amend, Prepare, Step, Report, Reopen, Close}
use Rattle.replay.specs.declared.calls.Answer.{Answer}
use Rattle.replay.specs.declared.calls.Answer.TheVariants.{Done, Entered, Stepped, Reported, Refused}

-- the problem, the limit, the visits answered and the budgets granted since the last accepted prepare, and the part that the last accepted open brought
pub record Model (C : Type 0) : Type 0 where
  pub problem : Problem C
  pub limit : C
  pub visits : ℕ
  pub budgets : ℕ
  pub part : Part

abbrev pub accepted : {C : Type 0} → Answer C → Bool
accepted Done = true
accepted (Entered k) = true
accepted (Stepped s) = true
accepted (Reported r s) = true
accepted (Refused e) = false

abbrev pub visits_of : {C : Type 0} → Answer C → ℕ
visits_of Done = 0
visits_of (Entered k) = 0
visits_of (Stepped s) = s.visits
visits_of (Reported r s) = 0
visits_of (Refused e) = 0

module _ {C : Type 0} (K : Structure C) where
  -- before the first call, and after a close
  abbrev pub empty : Model C
  empty = record {
    problem = record { sizes = []; functions = []; order = [] };
    limit = K.neutral;
    visits = 0;
    budgets = 0;
    part = record { start = 0; len = 0 };
  }

  -- the model after an accepted call that answered so many visits
  abbrev pub onward : Model C → Call C → ℕ → Model C
  onward m (Open sizes p) n =
      record { problem = record { sizes = vec_items sizes; functions = []; order = [] }; limit = m.limit; visits = m.visits; budgets = m.budgets; part = p }
  onward m (Enter scope c p) n =
      record { problem = with_function m.problem (vec_items scope) c; limit = m.limit; visits = m.visits; budgets = m.budgets; part = m.part }
  onward m (Amend k tuple c p) n =
      record { problem = with_cost m.problem k (vec_items tuple) c; limit = m.limit; visits = m.visits; budgets = m.budgets; part = m.part }
  onward m (Prepare order limit p) n =
      record { problem = arranged m.problem (vec_items order); limit = limit; visits = 0; budgets = 0; part = m.part }
  onward m (Step budget p) n =
      record { problem = m.problem; limit = m.limit; visits = m.visits + n; budgets = m.budgets + budget; part = m.part }
  onward m (Report q p) n = m
  onward m Reopen n = m
  onward m Close n = empty

  -- a refused call changes nothing
  abbrev pub kept : Model C → Call C → Answer C → Model C
  kept m c r = cond (accepted r) (onward m c (visits_of r)) m
