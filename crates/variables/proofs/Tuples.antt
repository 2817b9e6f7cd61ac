-- Tuples' values, listed along a scope.
use Rattle.std.proofs.Common.{◌≡◌, ℕ, ◌+◌, ◌*◌, ◌<◌, true, false, cond, ◌&&◌, eqb, ltb, List, [], ◌∷◌, ◌++◌, length, get_or, take, drop, set, sym, refl, ap, ◌∙◌, inl, inr, arith}
use Rattle.std.proofs.lemmas.List.{take-append-drop, get_or-set_same, get_or-set_other, take_more, length-take-le, drop_more}
use Rattle.std.proofs.lemmas.Bool.{not-true, and_parts, cases_eq, eq-eqb, ne_eqb}
use Rattle.std.proofs.lemmas.Bool.Decides.{nat_tests}
use Rattle.variables.specs.Lists.{has, distinct}
use Rattle.variables.specs.Assignments.{Assignment, along, cell_from}
use Rattle.variables.specs.Rules.{fits}
use Rattle.variables.proofs.Listings.{distinct_push, distinct_front}

-- tuples of another length do not fit
pub fits_length : (sizes vs cs : List ℕ) → fits sizes vs cs ≡ true → length vs ≡ length cs
fits_length sizes [] [] h = refl
fits_length sizes [] (c ∷ cs) h = grind arith
fits_length sizes (v ∷ vs) [] h = grind arith
fits_length sizes (v ∷ vs) (c ∷ cs) h = let ih = fits_length sizes vs cs in grind arith

pub fits_more : (sizes vs cs : List ℕ) (k : ℕ) → k < length vs → k < length cs
    → fits sizes (drop k vs) (drop k cs) ≡ (ltb (get_or cs k 0) (get_or sizes (get_or vs k 0) 0) && fits sizes (drop (k + 1) vs) (drop (k + 1) cs))
fits_more sizes vs cs k h l = rw (drop_more vs k 0 h, drop_more cs k 0 l)

-- a variable that is not listed has no value
pub along_absent : (us xs : List ℕ) (v : ℕ) → has us v ≡ false → along us xs v ≡ 0
along_absent [] xs v h = refl
along_absent (u ∷ us) [] v h = refl
along_absent (u ∷ us) (x ∷ xs) v h = let ih = along_absent us xs v in grind arith

pub along_push : (us xs : List ℕ) (u x v : ℕ) → length us ≡ length xs → has us u ≡ false → along (us ++ u ∷ []) (xs ++ x ∷ []) v ≡ cond (eqb u v) x (along us xs v)
along_push [] [] u x v l h = refl
along_push [] (y ∷ xs) u x v l h = absurd (omega arith)
along_push (w ∷ us) [] u x v l h = absurd (omega arith)
along_push (w ∷ us) (y ∷ xs) u x v l h = let ih = along_push us xs u x v (omega arith) in grind (arith, nat_tests)

-- a variable of a list without repetition is not before its place
pub absent : (vs : List ℕ) (k : ℕ) → k < length vs → distinct vs ≡ true → has (take k vs) (get_or vs k 0) ≡ false
absent vs k h d =
    let front : distinct (take (k + 1) vs) ≡ true = distinct_front (take (k + 1) vs) (drop (k + 1) vs) (ap distinct (take-append-drop (k + 1) vs) ∙ d) in
    let push = sym (distinct_push (take k vs) (get_or vs k 0)) ∙ ap distinct (sym (take_more vs k 0 h)) ∙ front in
    not-true _ (and_parts (distinct (take k vs)) _ push).1

-- one value more, written into the slots that hold those before it
pub along_more : (vs cs slots : List ℕ) (k : ℕ) → k < length vs → length vs ≡ length cs → distinct vs ≡ true → get_or vs k 0 < length slots
    → ((v : ℕ) → get_or slots v 0 ≡ along (take k vs) (take k cs) v)
    → (v : ℕ) → get_or (set slots (get_or vs k 0) (get_or cs k 0)) v 0 ≡ along (take (k + 1) vs) (take (k + 1) cs) v
along_more vs cs slots k h l d room before v =
    let u = get_or vs k 0 in
    let x = get_or cs k 0 in
    let new : has (take k vs) u ≡ false = absent vs k h d in
    let same : length (take k vs) ≡ length (take k cs) = omega (arith, length-take-le k vs (omega arith), length-take-le k cs (omega arith)) in
    let push = along_push (take k vs) (take k cs) u x v same new in
    rw (take_more vs k 0 h, take_more cs k 0 (omega arith)) (elim (cases_eq v u) [
      | inl e ↦ ap (λ w. get_or (set slots u x) w 0) e ∙ get_or-set_same slots u x 0 room ∙ sym (push ∙ ap (λ b. cond b x (along (take k vs) (take k cs) v)) (eq-eqb u v (sym e)))
      | inr n ↦ get_or-set_other slots u v x 0 n ∙ before v ∙ sym (push ∙ ap (λ b. cond b x (along (take k vs) (take k cs) v)) (ne_eqb u v (λ e. n (sym e))))
    ])

-- assignments that agree have the same cell
pub same_cell : (sizes : List ℕ) (at : ℕ) (vs : List ℕ) (a b : Assignment) → ((v : ℕ) → a v ≡ b v) → cell_from sizes at vs a ≡ cell_from sizes at vs b
same_cell sizes at [] a b h = refl
same_cell sizes at (v ∷ vs) a b h = ap (λ x. cell_from sizes (at * get_or sizes v 0 + x) vs a) (h v) ∙ same_cell sizes (at * get_or sizes v 0 + b v) vs a b h
