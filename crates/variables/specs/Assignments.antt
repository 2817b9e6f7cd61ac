-- Assignments of values to variables, and the cells of their tuples in a table.
use Rattle.std.specs.Prelude.{◌≡◌, ℕ, ◌+◌, ◌*◌, ◌<◌, cond, List, [], ◌∷◌, length, ◌==◌, slice_index}

-- what each variable is given, by its number
abbrev pub Assignment : Type 0
Assignment = ℕ → ℕ

-- values listed along variables, as an assignment
abbrev pub along : List ℕ → List ℕ → Assignment
along [] x v = 0
along (u ∷ us) [] v = 0
along (u ∷ us) (c ∷ x) v = cond (u == v) c (along us x v)

-- a tuple's cell: for each scope variable in turn, multiply by its domain size and add its value
abbrev pub cell_from : List ℕ → ℕ → List ℕ → Assignment → ℕ
cell_from sizes at [] a = at
cell_from sizes at (v ∷ vs) a = cell_from sizes (at * slice_index sizes v + a v) vs a

-- a table has a cell for each tuple
abbrev pub cells : List ℕ → List ℕ → ℕ
cells sizes [] = 1
cells sizes (v ∷ vs) = slice_index sizes v * cells sizes vs

-- a setting lists values by variable number
abbrev pub of : List ℕ → Assignment
of s v = slice_index s v

-- a full setting has a value of its domain for every variable
abbrev pub Full : List ℕ → List ℕ → Type 0
Full sizes s = (length s ≡ length sizes) × ((v : ℕ) → v < length sizes → slice_index s v < slice_index sizes v)
