-- One mini-bucket taken from the functions that wait.
use Rattle.std.specs.Prelude.{ℕ, Bool, true, false, cond, ◌||◌, List, [], ◌∷◌, ◌++◌, length, ◌==◌, nat_le}
use Rattle.variables.specs.Lists.{has}
use Rattle.problems.specs.Records.{Placed}
use Rattle.floors.specs.Settings.{kept}
use Rattle.floors.specs.ByNumber.{bucket_of}

-- whether some function of the list has the variable
abbrev pub names : List Placed → ℕ → Bool
names [] v = false
names (f ∷ fs) v = has f.scope v || names fs v

abbrev pub lies_at : List ℕ → ℕ → Placed → Bool
lies_at order p f = bucket_of order f.scope == p

-- a function of that scope opens a mini-bucket, or joins one that it leaves within the width
abbrev pub joins : List ℕ → ℕ → List Placed → List ℕ → Bool
joins order w [] scope = true
joins order w (m ∷ ms) scope = nat_le (length (kept (λ v. names (m ∷ ms) v || has scope v) order)) w

-- the mini-bucket that takes what it can from the functions that wait, in turn
abbrev pub taken : List ℕ → ℕ → List Placed → List Placed → List Placed
taken order w ms [] = ms
taken order w ms (f ∷ fs) = cond (joins order w ms f.scope) (taken order w (ms ++ f ∷ []) fs) (taken order w ms fs)

-- and those that wait on
abbrev pub passed : List ℕ → ℕ → List Placed → List Placed → List Placed
passed order w ms [] = []
passed order w ms (f ∷ fs) = cond (joins order w ms f.scope) (passed order w (ms ++ f ∷ []) fs) (f ∷ passed order w ms fs)
