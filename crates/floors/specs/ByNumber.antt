-- The floors as they are told by the numbers of buckets, and by lists of assignments.
use Rattle.std.specs.Prelude.{ℕ, zero, suc, ◌-◌, max, Bool, cond, not, List, [], ◌∷◌, ◌++◌, map, length, take, ◌==◌, nat_le, slice_index}
use Rattle.costs.specs.Structures.{Structure, total}
use Rattle.floors.specs.Leasts.{least_of}
use Rattle.variables.specs.Lists.{has}
use Rattle.variables.specs.Assignments.{Assignment, along}
use Rattle.problems.specs.Problems.{Function, Problem, cost_at}
use Rattle.floors.specs.Settings.{assign, costs_at, kept, values}
use Rattle.floors.specs.MiniBuckets.{flat, message, split_from}

-- the place of a variable in the order, from p on
abbrev pub place_from : ℕ → List ℕ → ℕ → ℕ
place_from p [] v = 0
place_from p (u ∷ order) v = cond (u == v) p (place_from (suc p) order v)

-- the bucket of a scope: the place of its latest variable, 0 where it is empty
abbrev pub bucket_of : List ℕ → List ℕ → ℕ
bucket_of order [] = 0
bucket_of order (v ∷ vs) = max (place_from 1 order v) (bucket_of order vs)

abbrev pub lies_in : {C : Type 0} → List ℕ → ℕ → Function C → Bool
lies_in order p f = bucket_of order f.scope == p

-- the messages that bucket p makes of the functions that lie in it
abbrev pub bucket_messages : {C : Type 0} → Structure C → List ℕ → List ℕ → ℕ → ℕ → List (Function C) → List (Function C)
bucket_messages K sizes order w p fs = map (message K sizes order (slice_index order (p - 1))) (split_from order w [] (kept (lies_in order p) fs))

-- what is left to combine once the last k buckets have been processed: entered functions by number, then messages as made
abbrev pub bucket_left : {C : Type 0} → Structure C → List ℕ → List ℕ → ℕ → List (Function C) → ℕ → List (Function C)
bucket_left K sizes order w fs zero = fs
bucket_left K sizes order w fs (suc k) =
    let p : ℕ = length order - k in
    kept (λ f. not (lies_in order p f)) (bucket_left K sizes order w fs k) ++ bucket_messages K sizes order w p (bucket_left K sizes order w fs k)

abbrev pub bucket_floor : {C : Type 0} → Structure C → ℕ → Problem C → List ℕ → C
bucket_floor K w p x =
    costs_at K p.sizes (along p.order x) (bucket_left K p.sizes p.order w p.functions (length p.order - length x))

abbrev pub bucket_paid_floor : {C : Type 0} → Structure C → Problem C → List ℕ → C
bucket_paid_floor K p x =
    costs_at K p.sizes (along p.order x) (kept (λ f. nat_le (bucket_of p.order f.scope) (length x)) p.functions)

-- every assignment of the scope that agrees with `a` on the variables that `given` has
abbrev pub agreeing : List ℕ → List ℕ → List ℕ → Assignment → List Assignment
agreeing sizes given [] a = a ∷ []
agreeing sizes given (v ∷ vs) a =
    cond (has given v) (agreeing sizes given vs a) (flat (map (λ c. agreeing sizes given vs (assign a v c)) (values sizes v)))

abbrev pub listed_choice_floor : {C : Type 0} → Structure C → Problem C → List ℕ → C
listed_choice_floor K p x =
    total K (map (λ f. least_of K (map (λ a. cost_at K p.sizes a f) (agreeing p.sizes (take (length x) p.order) f.scope (along p.order x)))) p.functions)
