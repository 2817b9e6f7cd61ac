-- Mini-buckets: the messages that they make, and their floors.
use Rattle.std.specs.Prelude.{ℕ, Bool, false, cond, not, ◌||◌, List, [], ◌∷◌, ◌++◌, map, length, drop, ◌==◌, nat_le}
use Rattle.costs.specs.Structures.{Structure}
use Rattle.floors.specs.Leasts.{least_of}
use Rattle.variables.specs.Lists.{has}
use Rattle.variables.specs.Assignments.{Assignment, along}
use Rattle.problems.specs.Problems.{Function, Problem}
use Rattle.floors.specs.Settings.{assign, costs_at, kept, values}

-- whether some function of the list has the variable
abbrev pub mentions : {C : Type 0} → List (Function C) → ℕ → Bool
mentions [] v = false
mentions (f ∷ fs) v = has f.scope v || mentions fs v

abbrev pub variables : {C : Type 0} → List ℕ → List (Function C) → List ℕ
variables order fs = kept (mentions fs) order

-- a function joins the first mini-bucket that it leaves within the width, or opens another
abbrev pub joined : {C : Type 0} → List ℕ → ℕ → Function C → List (List (Function C)) → List (List (Function C))
joined order w f [] = (f ∷ []) ∷ []
joined order w f (b ∷ bs) = cond (nat_le (length (variables order (b ++ (f ∷ [])))) w) ((b ++ (f ∷ [])) ∷ bs) (b ∷ joined order w f bs)

abbrev pub split_from : {C : Type 0} → List ℕ → ℕ → List (List (Function C)) → List (Function C) → List (List (Function C))
split_from order w bs [] = bs
split_from order w bs (f ∷ fs) = split_from order w (joined order w f bs) fs

abbrev pub flat : {A : Type 0} → List (List A) → List A
flat [] = []
flat (xs ∷ xss) = xs ++ flat xss

-- one cell for each tuple of the scope, in the order of the tuples' cells
abbrev pub tabulate : {C : Type 0} → List ℕ → List ℕ → (Assignment → C) → Assignment → List C
tabulate sizes [] F a = F a ∷ []
tabulate sizes (v ∷ vs) F a = flat (map (λ c. tabulate sizes vs F (assign a v c)) (values sizes v))

-- the least, over the values of v, of the functions combined
abbrev pub eliminated : {C : Type 0} → Structure C → List ℕ → ℕ → List (Function C) → Assignment → C
eliminated K sizes v b a = least_of K (map (λ c. costs_at K sizes (assign a v c) b) (values sizes v))

abbrev pub message : {C : Type 0} → Structure C → List ℕ → List ℕ → ℕ → List (Function C) → Function C
message K sizes order v b =
    let others : List ℕ = kept (λ u. not (u == v)) (variables order b) in
    record { scope = others; table = tabulate sizes others (eliminated K sizes v b) (λ u. 0) }

-- the messages that the functions which have v make
abbrev pub messages_of : {C : Type 0} → Structure C → List ℕ → List ℕ → ℕ → ℕ → List (Function C) → List (Function C)
messages_of K sizes order w v fs = map (message K sizes order v) (split_from order w [] (kept (λ f. has f.scope v) fs))

-- what is left to combine once vs have been eliminated, the last first: entered functions by number, then messages as made
abbrev pub left : {C : Type 0} → Structure C → List ℕ → List ℕ → ℕ → List (Function C) → List ℕ → List (Function C)
left {C} K sizes order w fs [] = fs
left {C} K sizes order w fs (v ∷ vs) =
    let rest : List (Function C) = left K sizes order w fs vs in
    kept (λ f. not (has f.scope v)) rest ++ messages_of K sizes order w v rest

-- the messages that the elimination of vs makes
abbrev pub made : {C : Type 0} → Structure C → List ℕ → List ℕ → ℕ → List (Function C) → List ℕ → List (Function C)
made K sizes order w fs [] = []
made K sizes order w fs (v ∷ vs) = made K sizes order w fs vs ++ messages_of K sizes order w v (left K sizes order w fs vs)

-- the variables that the prefix leaves out are eliminated
abbrev pub mini_bucket_floor : {C : Type 0} → Structure C → ℕ → Problem C → List ℕ → C
mini_bucket_floor K w p x =
    costs_at K p.sizes (along p.order x) (left K p.sizes p.order w p.functions (drop (length x) p.order))
