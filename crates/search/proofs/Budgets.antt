-- Budgets one after the other.
use Rattle.std.proofs.Common.{◌≡◌, ℕ, zero, suc, ◌+◌, true, List, refl, ap, ◌∙◌, suc-add, zero-add, arith}
use Rattle.costs.specs.Structures.{Structure}
use Rattle.problems.specs.Problems.{Problem}
use Rattle.search.specs.Searches.{Search, Ran, started, ended, visited, ran}
use Rattle.search.specs.Theorems.{Reached, RunsCompose, EndedIsEnded}

module _ {C : Type 0} (K : Structure C) (p : Problem C) (floor : List ℕ → C) where
  pub ran_ended : (k : ℕ) (s : Search C) → ended p.sizes p.order s.spot ≡ true → ran K p floor k s ≡ record { visits = 0; search = s }
  ran_ended zero s e = refl
  ran_ended (suc k) s e = rw (e, ran)

  -- what a further run adds to a run
  abbrev pub added : ℕ → Ran C → Ran C
  added visits r = record { visits = visits + r.visits; search = r.search }

  pub ran_more : (j k : ℕ) (s : Search C) → ran K p floor (j + k) s ≡ added (ran K p floor j s).visits (ran K p floor k (ran K p floor j s).search)
  ran_more zero k s = simp zero-add
  ran_more (suc j) k s = let ih = ran_more j k (visited K p floor s) in grind (arith, suc-add j k, ran_ended k s)

  module _ (limit : C) where
    -- a further budget leads on from what has been reached
    pub reached_more : (budgets visits budget more : ℕ) (s after : Search C) → Reached K p floor limit budgets visits s
        → ran K p floor budget s ≡ record { visits = more; search = after } → Reached K p floor limit (budgets + budget) (visits + more) after
    reached_more budgets visits budget more s after before run =
        ran_more budgets budget (started limit) ∙ ap (λ (r : Ran C). added r.visits (ran K p floor budget r.search)) before ∙ ap (added visits) run

pub runs_compose : (C : Type 0) → RunsCompose C
runs_compose C K p floor j k s = ran_more K p floor j k s

pub ended_is_ended : (C : Type 0) → EndedIsEnded C
ended_is_ended C K p floor k s e = ran_ended K p floor k s e
