-- Which variables are joined, and what it joins to eliminate one.
use Rattle.std.specs.Prelude.{ℕ, ◌+◌, Bool, cond, not, ◌&&◌, List, [], ◌∷◌, map, filter, count_by, ◌==◌, nat_lt, slice_index}
use Rattle.std.specs.List.{list_any}
use Rattle.variables.specs.Lists.{has}
use Rattle.problems.specs.Records.{Placed}

-- two variables are joined if one of the cliques has both
abbrev pub joined : List (List ℕ) → ℕ → ℕ → Bool
joined cs a b = list_any (λ c. has c a && has c b) cs

-- whether u is another variable that v is joined with
abbrev pub nearby : List (List ℕ) → ℕ → ℕ → Bool
nearby cs v u = not (u == v) && joined cs v u

-- the variables that v is joined with, of those that are left
abbrev pub neighbours : List (List ℕ) → List ℕ → ℕ → List ℕ
neighbours cs us v = filter (nearby cs v) us

-- how many of the variables a is not joined with
abbrev pub apart : List (List ℕ) → ℕ → List ℕ → ℕ
apart cs a bs = count_by (λ b. not (joined cs a b)) bs

-- how many pairs of the variables are not joined
abbrev pub gaps : List (List ℕ) → List ℕ → ℕ
gaps cs [] = 0
gaps cs (v ∷ vs) = apart cs v vs + gaps cs vs

-- how many pairs of its neighbours the elimination of v joins
abbrev pub fill : List (List ℕ) → List ℕ → ℕ → ℕ
fill cs left v = gaps cs (neighbours cs left v)

-- the first of the variables that joins fewer than those before it and than `best`
abbrev pub fewest_from : List (List ℕ) → List ℕ → ℕ → List ℕ → ℕ
fewest_from cs left best [] = best
fewest_from cs left best (v ∷ vs) = fewest_from cs left (cond (nat_lt (fill cs left v) (fill cs left best)) v best) vs

-- the variable whose elimination joins the fewest pairs, the first among equals
abbrev pub fewest : List (List ℕ) → List ℕ → ℕ
fewest cs left = fewest_from cs left (slice_index left 0) left

-- the variables but one
abbrev pub others : List ℕ → ℕ → List ℕ
others us v = filter (λ u. not (u == v)) us

-- every scope is a clique
abbrev pub scopes : List Placed → List (List ℕ)
scopes fs = map (λ (f : Placed). f.scope) fs
