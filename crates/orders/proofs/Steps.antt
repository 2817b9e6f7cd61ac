-- Cliques in vectors, and the scopes of the first functions.
use Rattle.std.proofs.Common.{◌≡◌, ℕ, zero, suc, ◌+◌, ◌&&◌, ◌||◌, List, [], ◌∷◌, ◌++◌, map, take, vec_items, Vec, Some, refl, ap, add-one, arith}
use Rattle.std.specs.List.{list_any}
use Rattle.std.specs.declared.alloc.Global.{Global}
use Rattle.variables.specs.Lists.{has}
use Rattle.problems.specs.Records.{Placed, nth}
use Rattle.orders.specs.Cliques.{joined, scopes}

-- cliques that are kept as vectors
pub joined_mapped : (cs : List (Vec ℕ Global)) (a b : ℕ) → list_any (λ (c : Vec ℕ Global). has (vec_items c) a && has (vec_items c) b) cs ≡ joined (map vec_items cs) a b
joined_mapped [] a b = refl
joined_mapped (c ∷ cs) a b = ap (λ t. (has (vec_items c) a && has (vec_items c) b) || t) (joined_mapped cs a b)

pub scopes_more : (fs : List Placed) (k : ℕ) (f : Placed) → nth fs k ≡ Some f → scopes (take (k + 1) fs) ≡ scopes (take k fs) ++ f.scope ∷ []
scopes_more [] k f e = grind arith
scopes_more (g ∷ fs) zero f e = let same : g ≡ f = cc in ap (λ (h : Placed). h.scope ∷ []) same
scopes_more (g ∷ fs) (suc k) f e = let ih = scopes_more fs k f e in rw (add-one (suc k)) (ap (λ (x : List (List ℕ)). g.scope ∷ x) (rw (add-one k) at ih))
