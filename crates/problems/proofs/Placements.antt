-- Lists of function records.
use Rattle.std.proofs.Common.{◌≡◌, ℕ, zero, suc, ◌+◌, ◌<◌, ◌≤◌, true, List, [], ◌∷◌, ◌++◌, map, length, get_or, take, Some, None, sym, refl, ap, ◌∙◌, arith}
use Rattle.std.proofs.lemmas.List.{length-map, length-take-le}
use Rattle.std.proofs.lemmas.Bool.Decides.{nat_tests}
use Rattle.variables.specs.Assignments.{cells}
use Rattle.variables.specs.Rules.{proper}
use Rattle.problems.specs.Records.{Placed, nth, laid_from, all_proper}

-- an item that is there, and one past the end
pub nth_map : {A B : Type 0} (f : A → B) (xs : List A) (k : ℕ) (d : A) → k < length xs → nth (map f xs) k ≡ Some (f (get_or xs k d))
nth_map f [] k d h = absurd (omega arith)
nth_map f (x ∷ xs) zero d h = refl
nth_map f (x ∷ xs) (suc k) d h = nth_map f xs k d (omega arith)

pub nth_past : {A : Type 0} (xs : List A) (k : ℕ) → length xs ≤ k → nth xs k ≡ None
nth_past [] k h = refl
nth_past (x ∷ xs) zero h = absurd (omega arith)
nth_past (x ∷ xs) (suc k) h = nth_past xs k (omega arith)

-- the slots in use
module _ {A B : Type 0} (f : A → B) (n : ℕ) (xs : List A) (room : n ≤ length xs) where
  pub used_length : length (map f (take n xs)) ≡ n
  used_length = length-map (take n xs) f ∙ length-take-le n xs room

pub laid_push : (sizes : List ℕ) (from to : ℕ) (fs : List Placed) (f : Placed) → laid_from sizes from fs to ≡ true → f.start ≡ to → laid_from sizes from (fs ++ f ∷ []) (to + cells sizes f.scope) ≡ true
laid_push sizes from to [] f h e = grind (arith, nat_tests)
laid_push sizes from to (g ∷ fs) f h e = let ih = laid_push sizes (from + cells sizes g.scope) to fs f in grind (arith, nat_tests)

pub proper_more : (n : ℕ) (fs : List Placed) (f : Placed) → all_proper n fs ≡ true → proper n f.scope ≡ true → all_proper n (fs ++ f ∷ []) ≡ true
proper_more n [] f h e = grind arith
proper_more n (g ∷ fs) f h e = let ih = proper_more n fs f in grind arith

pub nth_none : {A : Type 0} (xs : List A) (k : ℕ) → nth xs k ≡ None → length xs ≤ k
nth_none [] k h = omega arith
nth_none (x ∷ xs) zero h = grind arith
nth_none (x ∷ xs) (suc k) h = omega (arith, nth_none xs k h)

pub nth_some : {A : Type 0} (xs : List A) (k : ℕ) (y : A) → nth xs k ≡ Some y → k < length xs
nth_some [] k y h = grind arith
nth_some (x ∷ xs) zero y h = omega arith
nth_some (x ∷ xs) (suc k) y h = omega (arith, nth_some xs k y h)

-- an item of a slice that is seen through a map
pub mapped_length : {A B : Type 0} (f : A → B) (xs : List A) (ys : List B) → map f xs ≡ ys → length ys ≡ length xs
mapped_length f xs ys e = ap length (sym e) ∙ length-map xs f

pub mapped_nth : {A B : Type 0} (f : A → B) (xs : List A) (ys : List B) → map f xs ≡ ys → (k : ℕ) (x : A) → k < length xs → x ≡ get_or xs k x → nth ys k ≡ Some (f x)
mapped_nth {A} {B} f xs ys e k x h is = ap (λ (zs : List B). nth zs k) (sym e) ∙ nth_map f xs k x h ∙ ap (λ (y : A). Some (f y)) (sym is)
