-- Tables that lie one behind the other in an area: what entering one and changing a cost leaves of the problem.
use Rattle.std.proofs.Common.{◌≡◌, ℕ, zero, suc, ◌+◌, ◌<◌, ◌≤◌, true, eqb, List, [], ◌∷◌, ◌++◌, map, length, take, drop, set, replicate, Some, sym, refl, ap, ◌∙◌, ap₂, arith}
use Rattle.std.proofs.lemmas.List.{drop-take, take-take, take_at, drop_at, length-take-le, length-replicate, take-set-le, drop-set-lt, drop-set-add, map_push}
use Rattle.std.proofs.lemmas.Bool.{and_parts, eqb-true}
use Rattle.variables.specs.Assignments.{cells, along, cell_from}
use Rattle.problems.specs.Problems.{Function, changed, costing}
use Rattle.problems.specs.Records.{Placed, nth, function_in, laid_from}

module _ {C : Type 0} where
  -- two areas that agree on their first m cells agree on a part of those
  pub same_part : (xs ys : List C) (m a n : ℕ) → take m xs ≡ take m ys → a + n ≤ m → take n (drop a xs) ≡ take n (drop a ys)
  same_part xs ys m a n h l =
      sym (drop-take a n xs) ∙ ap (drop a) (sym (take-take (a + n) m xs l) ∙ ap (take (a + n)) h ∙ take-take (a + n) m ys l) ∙ drop-take a n ys

  take_set_in : (n : ℕ) (xs : List C) (i : ℕ) (c : C) → take n (set xs i c) ≡ set (take n xs) i c
  take_set_in zero xs i c = refl
  take_set_in (suc n) [] i c = refl
  take_set_in (suc n) (x ∷ xs) zero c = refl
  take_set_in (suc n) (x ∷ xs) (suc i) c = ap (λ ys. x ∷ ys) (take_set_in n xs i c)

module _ (sizes : List ℕ) where
  -- the last cell is not before the first
  pub laid_end : (from to : ℕ) (fs : List Placed) → laid_from sizes from fs to ≡ true → from ≤ to
  laid_end from to [] h = omega (arith, eqb-true from to h)
  laid_end from to (g ∷ fs) h = omega (arith, laid_end (from + cells sizes g.scope) to fs (and_parts (eqb g.start from) _ h).1)

  -- a table lies between the first cell and the last
  pub laid_inside : (from to : ℕ) (fs : List Placed) (k : ℕ) (f : Placed) → laid_from sizes from fs to ≡ true → nth fs k ≡ Some f
      → (from ≤ f.start) × (f.start + cells sizes f.scope ≤ to)
  laid_inside from to [] k f h e = grind arith
  laid_inside from to (g ∷ fs) zero f h e =
      let both = and_parts (eqb g.start from) _ h in
      let same : g ≡ f = cc in
      let start = ap (λ (p : Placed). p.start) same in
      let scope = ap (λ (p : Placed). cells sizes p.scope) same in
      let end = laid_end (from + cells sizes g.scope) to fs both.1 in
      let there = eqb-true g.start from both.0 in
      (omega arith, omega arith)
  laid_inside from to (g ∷ fs) (suc k) f h e =
      let ih = laid_inside (from + cells sizes g.scope) to fs k f (and_parts (eqb g.start from) _ h).1 e in
      (omega arith, omega arith)

  module _ {C : Type 0} where
    -- tables that end before cell m are the same in areas that agree up to there
    pub same_below : (area area' : List C) (m : ℕ) → take m area' ≡ take m area → (from to : ℕ) (fs : List Placed) → laid_from sizes from fs to ≡ true → to ≤ m
        → map (function_in sizes area') fs ≡ map (function_in sizes area) fs
    same_below area area' m h from to [] l e = refl
    same_below area area' m h from to (f ∷ fs) l e =
        let both = and_parts (eqb f.start from) _ l in
        let there = eqb-true f.start from both.0 in
        let end = laid_end (from + cells sizes f.scope) to fs both.1 in
        let table = same_part area' area m f.start (cells sizes f.scope) h (omega arith) in
        ap₂ (λ (t : List C) (gs : List (Function C)). record { scope = f.scope; table = t } ∷ gs) table (same_below area area' m h (from + cells sizes f.scope) to fs both.1 e)

    -- tables that begin after cell m are the same in areas that agree from there on
    pub same_above : (area area' : List C) (m : ℕ) → ((a : ℕ) → m ≤ a → drop a area' ≡ drop a area) → (from to : ℕ) (fs : List Placed) → laid_from sizes from fs to ≡ true → m ≤ from
        → map (function_in sizes area') fs ≡ map (function_in sizes area) fs
    same_above area area' m h from to [] l e = refl
    same_above area area' m h from to (f ∷ fs) l e =
        let both = and_parts (eqb f.start from) _ l in
        let there = eqb-true f.start from both.0 in
        let table = ap (take (cells sizes f.scope)) (h f.start (omega arith)) in
        ap₂ (λ (t : List C) (gs : List (Function C)). record { scope = f.scope; table = t } ∷ gs) table (same_above area area' m h (from + cells sizes f.scope) to fs both.1 (omega arith))

    -- one table more, with one cost in every cell
    pub entered_functions : (area : List C) (from to : ℕ) (fs : List Placed) (f : Placed) (c : C) → laid_from sizes from fs to ≡ true → f.start ≡ to → to + cells sizes f.scope ≤ length area
        → map (function_in sizes (take to area ++ (replicate (cells sizes f.scope) c ++ drop (to + cells sizes f.scope) area))) (fs ++ f ∷ [])
        ≡ map (function_in sizes area) fs ++ record { scope = f.scope; table = replicate (cells sizes f.scope) c } ∷ []
    entered_functions area from to fs f c l e room =
        let n = cells sizes f.scope in
        let area' : List C = take to area ++ (replicate n c ++ drop (to + n) area) in
        let long = length-take-le to area (omega arith) in
        let before : take to area' ≡ take to area = take_at (take to area) _ to long in
        let table : take n (drop f.start area') ≡ replicate n c = rw e (ap (take n) (drop_at (take to area) _ to long) ∙ take_at (replicate n c) _ n (length-replicate n c)) in
        map_push (function_in sizes area') fs f
        ∙ ap₂ (λ (gs : List (Function C)) (t : List C). gs ++ record { scope = f.scope; table = t } ∷ []) (same_below area area' to before from to fs l (omega arith)) table

    -- one cost changed, that of a tuple whose cell lies in its table
    pub amended_functions : (area : List C) (tuple : List ℕ) (c : C) (from to : ℕ) (fs : List Placed) (k : ℕ) (f : Placed) → laid_from sizes from fs to ≡ true → nth fs k ≡ Some f
        → cell_from sizes 0 f.scope (along f.scope tuple) < cells sizes f.scope
        → map (function_in sizes (set area (f.start + cell_from sizes 0 f.scope (along f.scope tuple)) c)) fs ≡ changed (costing sizes tuple c) k (map (function_in sizes area) fs)
    amended_functions area tuple c from to [] k f l e low = refl
    amended_functions area tuple c from to (g ∷ fs) zero f l e low =
        let both = and_parts (eqb g.start from) _ l in
        let there = eqb-true g.start from both.0 in
        let same : g ≡ f = cc in
        let at : ℕ = cell_from sizes 0 f.scope (along f.scope tuple) in
        let start = ap (λ (p : Placed). p.start) same in
        let size = ap (λ (p : Placed). cells sizes p.scope) same in
        let n = cells sizes f.scope in
        let table : take n (drop f.start (set area (f.start + at) c)) ≡ set (take n (drop f.start area)) at c =
        ap (take n) (drop-set-add f.start area at c) ∙ take_set_in n (drop f.start area) at c in
        let later = same_above area (set area (f.start + at) c) (from + cells sizes g.scope) (λ a h. drop-set-lt a area (f.start + at) c (omega arith)) (from + cells sizes g.scope) to fs both.1 (omega arith) in
        rw same (ap₂ (λ (t : List C) (gs : List (Function C)). record { scope = f.scope; table = t } ∷ gs) table later)
    amended_functions area tuple c from to (g ∷ fs) (suc k) f l e low =
        let both = and_parts (eqb g.start from) _ l in
        let there = eqb-true g.start from both.0 in
        let at : ℕ = f.start + cell_from sizes 0 f.scope (along f.scope tuple) in
        let next = from + cells sizes g.scope in
        let inside = laid_inside next to fs k f both.1 e in
        let table = same_part (set area at c) area at g.start (cells sizes g.scope) (take-set-le at area at c (omega arith)) (omega arith) in
        ap₂ (λ (t : List C) (gs : List (Function C)). record { scope = g.scope; table = t } ∷ gs) table (amended_functions area tuple c next to fs k f both.1 e low)
