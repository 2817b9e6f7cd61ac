-- What is proved of every search.
use Rattle.std.specs.Prelude.{◌≡◌, ℕ, ◌+◌, ◌<◌, ◌≤◌, true, false, List, [], length, Some, None}
use Rattle.costs.specs.Structures.{Structure, Lawful, cheaper}
use Rattle.variables.specs.Assignments.{Full}
use Rattle.problems.specs.Problems.{Problem, cost}
use Rattle.floors.specs.Settings.{Formed}
use Rattle.floors.specs.Floors.{Admissible, paid_floor}
use Rattle.search.specs.Searches.{Search, started, ended, steady, ran}
use Rattle.search.specs.Finds.{setting, prefixes, Best, NothingBelow}

-- what a search is granted: a lawful cost structure, a formed problem with a variable, and admissible floors
pub record Granted {C : Type 0} (K : Structure C) (p : Problem C) (floor : List ℕ → C) : Type 0 where
  pub lawful : Lawful K
  pub formed : Formed p
  pub some_variable : 0 < length p.sizes
  pub admissible : Admissible K p floor

-- budgets of k visits in all, since the start below a limit, have led to the search s by so many visits
abbrev pub Reached : {C : Type 0} → Structure C → Problem C → (List ℕ → C) → C → ℕ → ℕ → Search C → Type 0
Reached K p floor limit k visits s = ran K p floor k (started limit) ≡ record { visits = visits; search = s }

-- a search visits each prefix at most once, and stays behind its budget only if it ends
abbrev pub VisitsAreFew : Type 0 → Type 0
VisitsAreFew C = (K : Structure C) (p : Problem C) (floor : List ℕ → C) → Granted K p floor → (limit : C) (k visits : ℕ) (s : Search C) → Reached K p floor limit k visits s
    → (visits ≤ prefixes p.sizes p.order) × (ended p.sizes p.order s.spot ≡ false → (visits ≡ k) × (k < prefixes p.sizes p.order))

-- an incumbent is a full setting below the limit, and the bar is its cost; without one the bar is the limit
abbrev pub IncumbentIsReal : Type 0 → Type 0
IncumbentIsReal C = (K : Structure C) (p : Problem C) (floor : List ℕ → C) → Granted K p floor → (limit : C) (k visits : ℕ) (s : Search C) → Reached K p floor limit k visits s
    → ((y : List ℕ) → s.spot.incumbent ≡ Some y → Full p.sizes (setting p y) × (s.bar ≡ cost K p (setting p y)) × (cheaper K s.bar limit ≡ true)) × (s.spot.incumbent ≡ None → s.bar ≡ limit)

-- the incumbent of a search that ended is the best setting
abbrev pub BestIsFound : Type 0 → Type 0
BestIsFound C = (K : Structure C) (p : Problem C) (floor : List ℕ → C) → Granted K p floor → (limit : C) (k visits : ℕ) (s : Search C) → Reached K p floor limit k visits s
    → ended p.sizes p.order s.spot ≡ true → (y : List ℕ) → s.spot.incumbent ≡ Some y → Best K p limit s.bar (setting p y)

-- a search that ended without an incumbent shows that no setting is below the limit
abbrev pub NoneIsBelow : Type 0 → Type 0
NoneIsBelow C = (K : Structure C) (p : Problem C) (floor : List ℕ → C) → Granted K p floor → (limit : C) (k visits : ℕ) (s : Search C) → Reached K p floor limit k visits s
    → ended p.sizes p.order s.spot ≡ true → s.spot.incumbent ≡ None → NothingBelow K p limit

-- no setting is below the floor of the empty prefix
abbrev pub BottomIsBelow : Type 0 → Type 0
BottomIsBelow C = (K : Structure C) (p : Problem C) (floor : List ℕ → C) → Admissible K p floor → NothingBelow K p (floor [])

-- a budget of j visits and then one of k come to what one of j + k does
abbrev pub RunsCompose : Type 0 → Type 0
RunsCompose C = (K : Structure C) (p : Problem C) (floor : List ℕ → C) (j k : ℕ) (s : Search C) →
    let first = ran K p floor j s in
    let second = ran K p floor k first.search in
    ran K p floor (j + k) s ≡ record { visits = first.visits + second.visits; search = second.search }

-- a search that ended makes no more visits
abbrev pub EndedIsEnded : Type 0 → Type 0
EndedIsEnded C = (K : Structure C) (p : Problem C) (floor : List ℕ → C) (k : ℕ) (s : Search C) → ended p.sizes p.order s.spot ≡ true → ran K p floor k s ≡ record { visits = 0; search = s }

-- a search is steady at its start, and stays so whatever the floors are
abbrev pub SteadyThroughout : Type 0 → Type 0
SteadyThroughout C = (K : Structure C) (p : Problem C) (floor : List ℕ → C) → Formed p → 0 < length p.sizes → (limit : C) (k : ℕ) (s : Search C) →
    (steady p.sizes p.order (started limit).spot ≡ true) × (steady p.sizes p.order s.spot ≡ true → steady p.sizes p.order (ran K p floor k s).search.spot ≡ true)

-- what is granted can be had: by the paid floors, for every formed problem with a variable
abbrev pub PaidIsGranted : Type 0 → Type 0
PaidIsGranted C = (K : Structure C) (p : Problem C) → Lawful K → Formed p → 0 < length p.sizes → Granted K p (paid_floor K p)
