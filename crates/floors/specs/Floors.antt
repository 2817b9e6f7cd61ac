-- The two floors that need no cells, and what every floor promises.
use Rattle.std.specs.Prelude.{◌≡◌, ℕ, ◌≤◌, Bool, true, cond, ◌&&◌, List, [], ◌∷◌, map, length, take}
use Rattle.costs.specs.Structures.{Structure, total}
use Rattle.floors.specs.Leasts.{least_of}
use Rattle.variables.specs.Lists.{has}
use Rattle.variables.specs.Assignments.{Assignment, along, Full}
use Rattle.problems.specs.Problems.{Problem, cost, cost_at}
use Rattle.floors.specs.Settings.{Begins, Fits, assign, costs_at, kept, values}

-- whether every variable of the scope is given
abbrev pub within : List ℕ → List ℕ → Bool
within given [] = true
within given (v ∷ vs) = has given v && within given vs

-- the functions whose scope lies in the prefix
abbrev pub paid_floor : {C : Type 0} → Structure C → Problem C → List ℕ → C
paid_floor K p x =
    costs_at K p.sizes (along p.order x) (kept (λ f. within (take (length x) p.order) f.scope) p.functions)

-- the least of F over the assignments that agree with `a` but on the variables of the scope that are not given
abbrev pub cheapest : {C : Type 0} → Structure C → List ℕ → List ℕ → List ℕ → (Assignment → C) → Assignment → C
cheapest K sizes given [] F a = F a
cheapest K sizes given (v ∷ vs) F a =
    cond (has given v) (cheapest K sizes given vs F a) (least_of K (map (λ c. cheapest K sizes given vs F (assign a v c)) (values sizes v)))

-- for each function, its least cost that agrees with the prefix
abbrev pub first_choice_floor : {C : Type 0} → Structure C → Problem C → List ℕ → C
first_choice_floor K p x =
    total K (map (λ f. cheapest K p.sizes (take (length x) p.order) f.scope (λ a. cost_at K p.sizes a f) (along p.order x)) p.functions)

-- a floor is at most the cost of every full setting that begins with the prefix
abbrev pub Admissible : {C : Type 0} → Structure C → Problem C → (List ℕ → C) → Type 0
Admissible K p floor = (x s : List ℕ) → length x ≤ length p.order → Full p.sizes s → Begins p x s → K.at_most (floor x) (cost K p s) ≡ true

-- a prefix never has a cheaper floor than one that it lengthens
abbrev pub NeverFalls : {C : Type 0} → Structure C → Problem C → (List ℕ → C) → Type 0
NeverFalls K p floor = (x : List ℕ) (m : ℕ) → Fits p x → K.at_most (floor (take m x)) (floor x) ≡ true
