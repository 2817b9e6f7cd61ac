-- The messages by the numbers of buckets: what each is, its scope and the bucket that it came from.
use Rattle.std.specs.Prelude.{◌≡◌, ℕ, zero, suc, ◌+◌, ◌-◌, not, List, [], ◌∷◌, ◌++◌, map, length, ◌==◌, slice_index}
use Rattle.costs.specs.Structures.{Structure, Lawful}
use Rattle.variables.specs.Assignments.{cells}
use Rattle.problems.specs.Problems.{Function, Problem}
use Rattle.problems.specs.Records.{Placed}
use Rattle.floors.specs.Settings.{kept, Formed}
use Rattle.floors.specs.MiniBuckets.{variables, split_from, made}
use Rattle.floors.specs.ByNumber.{lies_in, bucket_messages}

-- the messages that the last k buckets make: buckets go from the last down, entered functions first by number, then messages as made
abbrev pub bucket_made : {C : Type 0} → Structure C → List ℕ → List ℕ → ℕ → List (Function C) → ℕ → List (Function C)
bucket_made K sizes order w fs zero = []
bucket_made K sizes order w fs (suc k) =
    bucket_made K sizes order w fs k ++ bucket_messages K sizes order w (length order - k) (fs ++ bucket_made K sizes order w fs k)

-- a function of which only the scope matters
abbrev pub bare : List ℕ → Function ℕ
bare scope = record { scope = scope; table = [] }

-- a message is over the mini-bucket's other variables, along the order
abbrev pub message_scope : {C : Type 0} → List ℕ → ℕ → List (Function C) → List ℕ
message_scope order v b = kept (λ u. not (u == v)) (variables order b)

-- the scopes of the messages that bucket p makes of functions with these scopes
abbrev pub scopes_from : List ℕ → ℕ → ℕ → List (List ℕ) → List (List ℕ)
scopes_from order w p scopes = map (message_scope order (slice_index order (p - 1))) (split_from order w [] (kept (lies_in order p) (map bare scopes)))

-- the scopes of the messages that the last k buckets make
abbrev pub scopes_made : List ℕ → ℕ → List (List ℕ) → ℕ → List (List ℕ)
scopes_made order w scopes zero = []
scopes_made order w scopes (suc k) =
    scopes_made order w scopes k ++ scopes_from order w (length order - k) (scopes ++ scopes_made order w scopes k)

-- the cells of tables over these scopes
abbrev pub all_cells : List ℕ → List (List ℕ) → ℕ
all_cells sizes [] = 0
all_cells sizes (s ∷ ss) = cells sizes s + all_cells sizes ss

-- the records of a bucket's messages, with tables one behind the other
abbrev pub laid_out : List ℕ → ℕ → ℕ → List (List ℕ) → List Placed
laid_out sizes p at [] = []
laid_out sizes p at (s ∷ ss) = record { scope = s; origin = p; start = at } ∷ laid_out sizes p (at + cells sizes s) ss

-- the records of the messages that the last k buckets make: scope, the bucket that each came from, and its table's place
abbrev pub placed_made : List ℕ → List ℕ → ℕ → List (List ℕ) → ℕ → ℕ → List Placed
placed_made sizes order w scopes at zero = []
placed_made sizes order w scopes at (suc k) =
    placed_made sizes order w scopes at k
    ++ laid_out sizes (length order - k) (at + all_cells sizes (scopes_made order w scopes k)) (scopes_from order w (length order - k) (scopes ++ scopes_made order w scopes k))

-- they are the messages that eliminating one variable after the other makes, for every lawful cost structure
abbrev pub SameMessages : Type 0 → Type 0
SameMessages C =
    (K : Structure C) → Lawful K → (p : Problem C) → Formed p → (w : ℕ)
    → bucket_made K p.sizes p.order w p.functions (length p.order) ≡ made K p.sizes p.order w p.functions p.order
