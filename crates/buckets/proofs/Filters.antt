-- Filters of lists, and the places of variables.
use Rattle.std.proofs.Common.{◌≡◌, ℕ, suc, ◌+◌, ◌-◌, ◌≤◌, Bool, true, false, cond, ◌&&◌, eqb, List, [], ◌∷◌, ◌++◌, map, length, get_or, sym, refl, ap, ◌∙◌, ap₂, inl, inr, arith}
use Rattle.std.specs.List.{AllByRecursion}
use Rattle.std.proofs.lemmas.Bool.{cond_both, cases_Bool, cases_eq, or_left, or_right, eqb-true, eq-eqb}
use Rattle.std.proofs.lemmas.Bool.Decides.{nat_tests}
use Rattle.variables.specs.Lists.{has}
use Rattle.floors.specs.Settings.{kept}
use Rattle.floors.specs.ByNumber.{place_from, bucket_of}
use Rattle.floors.specs.Scopes.{has_first}

-- filters

pub kept_append : {A : Type 0} (p : A → Bool) (xs ys : List A) → kept p (xs ++ ys) ≡ kept p xs ++ kept p ys
kept_append p [] ys = refl
kept_append p (x ∷ xs) ys = let ih = kept_append p xs ys in elim (cases_Bool (p x)) [ inl e ↦ rw (e, ih) | inr e ↦ rw (e, ih) ]

-- of two filters, one after the other, those that pass both
pub kept_kept : {A : Type 0} (p q r : A → Bool) → ((x : A) → (q x && p x) ≡ r x) → (xs : List A) → kept p (kept q xs) ≡ kept r xs
kept_kept p q r h [] = refl
kept_kept p q r h (x ∷ xs) =
    let ih = kept_kept p q r h xs in
    let t : r x ≡ (q x && p x) = sym (h x) in
    elim (cases_Bool (q x)) [
      | inl e ↦ elim (cases_Bool (p x)) [ inl d ↦ rw (t, e, d, ih) | inr d ↦ rw (t, e, d) ih ]
      | inr e ↦ rw (t, e) ih
    ]

pub kept_all : {A : Type 0} (p : A → Bool) (xs : List A) → AllByRecursion (λ x. p x ≡ true) xs → kept p xs ≡ xs
kept_all p [] h = refl
kept_all p (x ∷ xs) h = rw h.0 (ap (λ (l : List _). x ∷ l) (kept_all p xs h.1))

pub kept_map : {A B : Type 0} (g : A → B) (p : B → Bool) (xs : List A) → kept p (map g xs) ≡ map g (kept (λ x. p (g x)) xs)
kept_map g p [] = refl
kept_map g p (x ∷ xs) = let ih = kept_map g p xs in elim (cases_Bool (p (g x))) [ inl e ↦ rw (e, ih) | inr e ↦ rw (e, ih) ]

-- places

pub place_most : (q : ℕ) (order : List ℕ) (v : ℕ) → place_from (suc q) order v ≤ q + length order
place_most q [] v = omega arith
place_most q (u ∷ order) v = let ih = place_most (suc q) order v in cond_both (eqb u v) (suc q) (place_from (suc (suc q)) order v) (λ n. n ≤ q + suc (length order)) (λ _. omega arith) (λ _. omega arith)

pub bucket_most : (order scope : List ℕ) → bucket_of order scope ≤ length order
bucket_most order [] = omega arith
bucket_most order (v ∷ vs) = omega (arith, place_most 0 order v, bucket_most order vs)

-- a variable of the order stands at its place
pub place_holds : (q : ℕ) (order : List ℕ) (v : ℕ) → has order v ≡ true → (suc q ≤ place_from (suc q) order v) × (get_or order (place_from (suc q) order v - suc q) 0 ≡ v)
place_holds q [] v h = grind arith
place_holds q (u ∷ order) v h =
    elim (cases_Bool (eqb u v)) [
      | inl e ↦ rw e (omega arith, let z : suc q - suc q ≡ 0 = omega arith in rw z (eqb-true u v e))
      | inr e ↦
          let ih = place_holds (suc q) order v (grind (arith, nat_tests)) in
          let at : ℕ = place_from (suc (suc q)) order v in
          let more : at - suc q ≡ suc (at - suc (suc q)) = omega (arith, ih.0) in
          rw e (omega (arith, ih.0), rw more ih.1)
    ]

pub place_none : (q : ℕ) (order : List ℕ) (v : ℕ) → has order v ≡ false → place_from q order v ≡ 0
place_none q [] v h = refl
place_none q (u ∷ order) v h = let ih = place_none (suc q) order v in grind arith

pub map_map : {A B D : Type 0} (f : B → D) (g : A → B) (xs : List A) → map f (map g xs) ≡ map (λ x. f (g x)) xs
map_map f g [] = refl
map_map f g (x ∷ xs) = ap (λ (l : List _). f (g x) ∷ l) (map_map f g xs)

-- what lies in a bucket has the bucket's variable
pub lies_has : (order : List ℕ) (p : ℕ) (scope : List ℕ) → bucket_of order scope ≡ suc p → has scope (get_or order p 0) ≡ true
lies_has order p [] h = absurd (omega arith)
lies_has order p (u ∷ us) h =
    elim (cases_eq (place_from 1 order u) (suc p)) [
      | inl e ↦
          elim (cases_Bool (has order u)) [
            | inl in' ↦
                let at : get_or order (place_from 1 order u - 1) 0 ≡ u = (place_holds 0 order u in').1 in
                let i : place_from 1 order u - 1 ≡ p = omega arith in
                or_left (eqb u (get_or order p 0)) (has us (get_or order p 0)) (eq-eqb u (get_or order p 0) (sym (ap (λ k. get_or order k 0) (sym i) ∙ at)))
            | inr out ↦ absurd (omega (arith, place_none 1 order u out))
          ]
      | inr n ↦ or_right (eqb u (get_or order p 0)) (has us (get_or order p 0)) (lies_has order p us (omega arith))
    ]

-- filters that agree on what is listed
pub kept_agree : (p q : ℕ → Bool) (xs : List ℕ) → ((v : ℕ) → has xs v ≡ true → p v ≡ q v) → kept p xs ≡ kept q xs
kept_agree p q [] h = refl
kept_agree p q (x ∷ xs) h =
    ap₂ (λ (b : Bool) (l : List ℕ). cond b (x ∷ l) l) (h x (has_first x xs)) (kept_agree p q xs (λ v k. h v (or_right (eqb x v) (has xs v) k)))

pub all_kept : {A : Type 0} (P : A → Type 0) (p : A → Bool) (xs : List A) → AllByRecursion P xs → AllByRecursion P (kept p xs)
all_kept P p [] h = tt
all_kept P p (x ∷ xs) h = cond_both (p x) (x ∷ kept p xs) (kept p xs) (AllByRecursion P) (λ _. (h.0, all_kept P p xs h.1)) (λ _. all_kept P p xs h.1)

pub all_passing : {A : Type 0} (p : A → Bool) (xs : List A) → AllByRecursion (λ x. p x ≡ true) (kept p xs)
all_passing p [] = tt
all_passing p (x ∷ xs) = cond_both (p x) (x ∷ kept p xs) (kept p xs) (AllByRecursion (λ y. p y ≡ true)) (λ e. (e, all_passing p xs)) (λ _. all_passing p xs)
