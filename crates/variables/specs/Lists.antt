-- Lists of variables.
use Rattle.std.specs.Prelude.{ℕ, Bool, true, false, not, ◌&&◌, ◌||◌, List, [], ◌∷◌, ◌==◌, nat_lt}

-- whether a variable is listed
abbrev pub has : List ℕ → ℕ → Bool
has [] v = false
has (u ∷ us) v = u == v || has us v

-- no variable is listed twice
abbrev pub distinct : List ℕ → Bool
distinct [] = true
distinct (v ∷ vs) = not (has vs v) && distinct vs

-- every variable is one of the first n
abbrev pub known : ℕ → List ℕ → Bool
known n [] = true
known n (v ∷ vs) = nat_lt v n && known n vs
