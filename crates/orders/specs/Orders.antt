-- Orders of a job's variables.
use Rattle.std.specs.Prelude.{ℕ, zero, suc, List, [], ◌∷◌, ◌++◌, reverse, length}
use Rattle.std.specs.List.{range_with_len}
use Rattle.problems.specs.Outlines.{Outline}
use Rattle.orders.specs.Cliques.{neighbours, fewest, others, scopes}

-- 0, 1, 2 and so on, n of them
abbrev pub numbered : ℕ → List ℕ
numbered n = range_with_len 0 n

-- n variables eliminated one after the other: what joins the fewest pairs goes next, and its neighbours are a clique then
abbrev pub eliminated : ℕ → List (List ℕ) → List ℕ → List ℕ
eliminated zero cs left = []
eliminated (suc n) cs left =
    let v : ℕ = fewest cs left in
    v ∷ eliminated n (cs ++ neighbours cs left v ∷ []) (others left v)

-- min-fill: the reverse of the elimination
abbrev pub min_fill : Outline → List ℕ
min_fill o = reverse (eliminated (length o.sizes) (scopes o.functions) (numbered (length o.sizes)))
