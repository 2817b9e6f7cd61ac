-- The records of all messages: their scopes, and where their tables lie.
use Rattle.std.proofs.Common.{◌≡◌, ℕ, zero, suc, ◌+◌, ◌-◌, ◌≤◌, true, not, eqb, List, [], ◌∷◌, ◌++◌, map, length, get_or, take, sym, refl, ap, ◌∙◌, ap₂, inl, inr, arith}
use Rattle.std.specs.List.{AllByRecursion}
use Rattle.std.proofs.lemmas.List.{length-map, length-append, map-append, take_all, take-append-le}
use Rattle.std.proofs.ByRecursion.{All-append}
use Rattle.std.proofs.lemmas.Bool.{and_parts, and_from, eqb-true, eq-eqb, cases_lt, or_cases}
use Rattle.variables.specs.Lists.{has}
use Rattle.variables.specs.Assignments.{cells}
use Rattle.problems.specs.Problems.{Function}
use Rattle.problems.specs.Records.{Placed, laid_from}
use Rattle.floors.specs.Settings.{kept}
use Rattle.floors.specs.MiniBuckets.{mentions, variables, split_from}
use Rattle.floors.specs.ByNumber.{lies_in}
use Rattle.floors.specs.Scopes.{kept_has}
use Rattle.buckets.specs.Joining.{names}
use Rattle.buckets.specs.Made.{bare, message_scope, scopes_from, scopes_made, all_cells, laid_out, placed_made}
use Rattle.buckets.specs.Processed.{scopes_of}
use Rattle.buckets.specs.Tables.{Below}

-- scopes and lengths

pub out_scopes : (sizes : List ℕ) (p at : ℕ) (ss : List (List ℕ)) → scopes_of (laid_out sizes p at ss) ≡ ss
out_scopes sizes p at [] = refl
out_scopes sizes p at (s ∷ ss) = ap (λ (l : List (List ℕ)). s ∷ l) (out_scopes sizes p (at + cells sizes s) ss)

pub cells_append : (sizes : List ℕ) (ss ts : List (List ℕ)) → all_cells sizes (ss ++ ts) ≡ all_cells sizes ss + all_cells sizes ts
cells_append sizes [] ts = omega arith
cells_append sizes (s ∷ ss) ts = omega (arith, cells_append sizes ss ts)

laid_append : (sizes : List ℕ) (a b c : ℕ) (fs gs : List Placed) → laid_from sizes a fs b ≡ true → laid_from sizes b gs c ≡ true → laid_from sizes a (fs ++ gs) c ≡ true
laid_append sizes a b c [] gs h k = let e = eqb-true a b h in rw e k
laid_append sizes a b c (f ∷ fs) gs h k =
    let both = and_parts (eqb f.start a) _ h in
    and_from (eqb f.start a) _ both.0 (laid_append sizes (a + cells sizes f.scope) b c fs gs both.1 k)

out_laid : (sizes : List ℕ) (p at to : ℕ) (ss : List (List ℕ)) → to ≡ at + all_cells sizes ss → laid_from sizes at (laid_out sizes p at ss) to ≡ true
out_laid sizes p at to [] e = eq-eqb at to (omega arith)
out_laid sizes p at to (s ∷ ss) e = and_from (eqb at at) _ (eq-eqb at at refl) (out_laid sizes p (at + cells sizes s) to ss (omega arith))

-- where tables that are laid out end
pub laid_ends : (sizes : List ℕ) (from to : ℕ) (fs : List Placed) → laid_from sizes from fs to ≡ true → to ≡ from + all_cells sizes (scopes_of fs)
laid_ends sizes from to [] h = omega (arith, eqb-true from to h)
laid_ends sizes from to (f ∷ fs) h = omega (arith, laid_ends sizes (from + cells sizes f.scope) to fs (and_parts (eqb f.start from) _ h).1)

-- tables that are laid out end before the last one's end
pub laid_below : (sizes : List ℕ) (a b : ℕ) (fs : List Placed) → laid_from sizes a fs b ≡ true → Below sizes b fs
laid_below sizes a b [] h = tt
laid_below sizes a b (f ∷ fs) h =
    let both = and_parts (eqb f.start a) _ h in
    (omega (arith, eqb-true f.start a both.0, ends (a + cells sizes f.scope) fs both.1), laid_below sizes (a + cells sizes f.scope) b fs both.1)
  where
    ends : (from : ℕ) (gs : List Placed) → laid_from sizes from gs b ≡ true → from ≤ b
    ends from [] k = omega (arith, eqb-true from b k)
    ends from (g ∷ gs) k = omega (arith, ends (from + cells sizes g.scope) gs (and_parts (eqb g.start from) _ k).1)

module _ (sizes order : List ℕ) (w : ℕ) (ss : List (List ℕ)) (at : ℕ) where
  abbrev Scopes : ℕ → List (List ℕ)
  Scopes k = scopes_made order w ss k

  abbrev Records : ℕ → List Placed
  Records k = placed_made sizes order w ss at k

  pub placed_scopes : (k : ℕ) → scopes_of (Records k) ≡ Scopes k
  placed_scopes zero = refl
  placed_scopes (suc k) =
      map-append (λ (f : Placed). f.scope) (Records k) _
      ∙ ap₂ ◌++◌ (placed_scopes k) (out_scopes sizes (length order - k) (at + all_cells sizes (Scopes k)) (scopes_from order w (length order - k) (ss ++ Scopes k)))

  pub placed_length : (k : ℕ) → length (Records k) ≡ length (Scopes k)
  placed_length k = sym (length-map (Records k) (λ (f : Placed). f.scope)) ∙ ap length (placed_scopes k)

  pub placed_laid : (k : ℕ) → laid_from sizes at (Records k) (at + all_cells sizes (Scopes k)) ≡ true
  placed_laid zero = eq-eqb at (at + 0) (omega arith)
  placed_laid (suc k) =
      let new : List (List ℕ) = scopes_from order w (length order - k) (ss ++ Scopes k) in
      laid_append sizes at (at + all_cells sizes (Scopes k)) (at + all_cells sizes (Scopes k ++ new)) (Records k) _ (placed_laid k)
      (out_laid sizes (length order - k) (at + all_cells sizes (Scopes k)) _ new (omega (arith, cells_append sizes (Scopes k) new)))

  pub scopes_longer : (k n : ℕ) → k ≤ n → all_cells sizes (Scopes k) ≤ all_cells sizes (Scopes n)
  scopes_longer k zero l = let z : k ≡ 0 = omega arith in rw z (omega arith)
  scopes_longer k (suc n) l =
      elim (cases_lt k (suc n)) [
        | inl h ↦ omega (arith, scopes_longer k n (omega arith), cells_append sizes (Scopes n) (scopes_from order w (length order - n) (ss ++ Scopes n)))
        | inr h ↦ let e : k ≡ suc n = omega arith in rw e (omega arith)
      ]

  records_longer : (k n : ℕ) → k ≤ n → length (Records k) ≤ length (Records n)
  records_longer k zero l = let z : k ≡ 0 = omega arith in rw z (omega arith)
  records_longer k (suc n) l =
      elim (cases_lt k (suc n)) [
        | inl h ↦ omega (arith, records_longer k n (omega arith), length-append (Records n) (laid_out sizes (length order - n) (at + all_cells sizes (Scopes n)) (scopes_from order w (length order - n) (ss ++ Scopes n))))
        | inr h ↦ let e : k ≡ suc n = omega arith in rw e (omega arith)
      ]

  -- the records of the last k buckets' messages are the first of all
  pub placed_front : (k n : ℕ) → k ≤ n → take (length (Records k)) (Records n) ≡ Records k
  placed_front k zero l = let z : k ≡ 0 = omega arith in rw z refl
  placed_front k (suc n) l =
      elim (cases_lt k (suc n)) [
        | inl h ↦ take-append-le (length (Records k)) (Records n) _ (records_longer k n (omega arith)) ∙ placed_front k n (omega arith)
        | inr h ↦ let e : k ≡ suc n = omega arith in rw e (take_all (length (Records (suc n))) (Records (suc n)) (omega arith))
      ]

  -- every variable of a message is of the order
  abbrev pub In : List ℕ → Type 0
  In s = (u : ℕ) → has s u ≡ true → has order u ≡ true

  from_inside : (p : ℕ) (ts : List (List ℕ)) → AllByRecursion In (scopes_from order w p ts)
  from_inside p ts = each (split_from order w [] (kept (lies_in order p) (map bare ts)))
    where
      each : (bs : List (List (Function ℕ))) → AllByRecursion In (map (message_scope order (get_or order (p - 1) 0)) bs)
      each [] = tt
      each (b ∷ bs) = (λ u h. (kept_has (mentions b) order u (kept_has (λ x. not (eqb x (get_or order (p - 1) 0))) (variables order b) u h).1).1, each bs)

  pub made_inside : (k : ℕ) → AllByRecursion In (Scopes k)
  made_inside zero = tt
  made_inside (suc k) = All-append In (Scopes k) _ (made_inside k) (from_inside (length order - k) (ss ++ Scopes k))

  pub names_inside : (fs : List Placed) → AllByRecursion In (scopes_of fs) → (u : ℕ) → names fs u ≡ true → has order u ≡ true
  names_inside [] h u m = grind arith
  names_inside (f ∷ fs) h u m = elim (or_cases (has f.scope u) (names fs u) m) [ inl e ↦ h.0 u e | inr e ↦ names_inside fs h.1 u e ]
