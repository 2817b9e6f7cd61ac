-- First fit is the same as taking one mini-bucket after the other from what waits.
use Rattle.std.proofs.Common.{◌≡◌, ℕ, suc, ◌+◌, ◌≤◌, Bool, true, false, cond, ◌||◌, leb, List, [], ◌∷◌, ◌++◌, map, length, drop, sym, refl, ap, ◌∙◌, ap₂, inl, inr, arith}
use mathlib.Core.Path.{fun_ext}
use Rattle.std.specs.List.{AllByRecursion}
use Rattle.std.proofs.lemmas.List.{map_push, append_assoc}
use Rattle.std.proofs.ByRecursion.{All-push}
use Rattle.std.proofs.lemmas.Bool.{cond_both, cases_Bool, leb-true}
use Rattle.variables.specs.Lists.{has}
use Rattle.problems.specs.Problems.{Function}
use Rattle.problems.specs.Records.{Placed}
use Rattle.floors.specs.Settings.{kept}
use Rattle.floors.specs.MiniBuckets.{mentions, variables, joined, split_from}
use Rattle.buckets.specs.Joining.{names, joins, taken, passed}

pub names_push : (ms : List Placed) (f : Placed) (v : ℕ) → names (ms ++ f ∷ []) v ≡ (names ms v || has f.scope v)
names_push [] f v = grind arith
names_push (m ∷ ms) f v = let ih = names_push ms f v in grind arith

module _ {C : Type 0} (g : Placed → Function C) (same : (f : Placed) → (g f).scope ≡ f.scope) where
  pub mentions_names : (ms : List Placed) (v : ℕ) → mentions (map g ms) v ≡ names ms v
  mentions_names [] v = refl
  mentions_names (m ∷ ms) v = ap₂ ◌||◌ (ap (λ s. has s v) (same m)) (mentions_names ms v)

  pub variables_names : (order : List ℕ) (ms : List Placed) → variables order (map g ms) ≡ kept (names ms) order
  variables_names order ms = ap (λ p. kept p order) (fun_ext (mentions_names ms))

  module _ (order : List ℕ) (w : ℕ) where
    joins_test : (m : Placed) (ms : List Placed) (f : Placed) → leb (length (variables order (map g (m ∷ ms) ++ (g f ∷ [])))) w ≡ joins order w (m ∷ ms) f.scope
    joins_test m ms f =
        ap (λ (b : List (Function C)). leb (length (variables order b)) w) (sym (map_push g (m ∷ ms) f))
        ∙ ap (λ l. leb (length l) w) (variables_names order ((m ∷ ms) ++ f ∷ []) ∙ ap (λ p. kept p order) (fun_ext (names_push (m ∷ ms) f)))

    -- the first mini-bucket takes what it can, and the others see what it passes on
    first_takes : (m : Placed) (ms : List Placed) (bs : List (List (Function C))) (fs : List Placed)
        → split_from order w (map g (m ∷ ms) ∷ bs) (map g fs) ≡ map g (taken order w (m ∷ ms) fs) ∷ split_from order w bs (map g (passed order w (m ∷ ms) fs))
    first_takes m ms bs [] = refl
    first_takes m ms bs (f ∷ fs) =
        let more : List (List (Function C)) = (map g (m ∷ ms) ++ (g f ∷ [])) ∷ bs in
        let other : List (List (Function C)) = map g (m ∷ ms) ∷ joined order w (g f) bs in
        let step : (t : Bool) → joins order w (m ∷ ms) f.scope ≡ t → split_from order w (map g (m ∷ ms) ∷ bs) (map g (f ∷ fs)) ≡ split_from order w (cond t more other) (map g fs) =
        λ t e. ap (λ (b : Bool). split_from order w (cond b more other) (map g fs)) (joins_test m ms f ∙ e) in
        elim (cases_Bool (joins order w (m ∷ ms) f.scope)) [
          | inl e ↦
              rw e
              (step true e ∙ ap (λ (b : List (Function C)). split_from order w (b ∷ bs) (map g fs)) (sym (map_push g (m ∷ ms) f)) ∙ first_takes m (ms ++ f ∷ []) bs fs)
          | inr e ↦ rw e (step false e ∙ first_takes m ms (joined order w (g f) bs) fs)
        ]

    pub first_fit : (f : Placed) (fs : List Placed)
        → split_from order w [] (map g (f ∷ fs)) ≡ map g (taken order w [] (f ∷ fs)) ∷ split_from order w [] (map g (passed order w [] (f ∷ fs)))
    first_fit f fs = first_takes f [] [] fs

module _ (order : List ℕ) (w : ℕ) where
  pub all_taken : (P : Placed → Type 0) (ms fs : List Placed) → AllByRecursion P ms → AllByRecursion P fs → AllByRecursion P (taken order w ms fs)
  all_taken P ms [] h k = h
  all_taken P ms (f ∷ fs) h k =
      cond_both (joins order w ms f.scope) (taken order w (ms ++ f ∷ []) fs) (taken order w ms fs) (AllByRecursion P)
      (λ _. all_taken P (ms ++ f ∷ []) fs (All-push P ms f h k.0) k.1) (λ _. all_taken P ms fs h k.1)

  pub all_passed : (P : Placed → Type 0) (ms fs : List Placed) → AllByRecursion P fs → AllByRecursion P (passed order w ms fs)
  all_passed P ms [] k = tt
  all_passed P ms (f ∷ fs) k =
      cond_both (joins order w ms f.scope) (passed order w (ms ++ f ∷ []) fs) (f ∷ passed order w ms fs) (AllByRecursion P)
      (λ _. all_passed P (ms ++ f ∷ []) fs k.1) (λ _. (k.0, all_passed P ms fs k.1))

  pub passed_length : (ms fs : List Placed) → length (passed order w ms fs) ≤ length fs
  passed_length ms [] = omega arith
  passed_length ms (f ∷ fs) =
      cond_both (joins order w ms f.scope) (passed order w (ms ++ f ∷ []) fs) (f ∷ passed order w ms fs) (λ l. length l ≤ suc (length fs))
      (λ _. omega (arith, passed_length (ms ++ f ∷ []) fs)) (λ _. omega (arith, passed_length ms fs))

  -- a mini-bucket within some number of variables stays within it
  taken_within : (most : ℕ) → w ≤ most → (m : Placed) (ms fs : List Placed) → length (kept (names (m ∷ ms)) order) ≤ most → length (kept (names (taken order w (m ∷ ms) fs)) order) ≤ most
  taken_within most h m ms [] k = k
  taken_within most h m ms (f ∷ fs) k =
      cond_both (joins order w (m ∷ ms) f.scope) (taken order w ((m ∷ ms) ++ f ∷ []) fs) (taken order w (m ∷ ms) fs) (λ l. length (kept (names l) order) ≤ most)
      (λ e.
      let fits : length (kept (λ v. names (m ∷ ms) v || has f.scope v) order) ≤ w = leb-true _ _ e in
      let wide : length (kept (names ((m ∷ ms) ++ f ∷ [])) order) ≡ length (kept (λ v. names (m ∷ ms) v || has f.scope v) order) = ap (λ p. length (kept p order)) (fun_ext (names_push (m ∷ ms) f)) in
      taken_within most h m (ms ++ f ∷ []) fs (omega arith))
      (λ _. taken_within most h m ms fs k)

  pub taken_narrow : (most : ℕ) → w ≤ most → (f : Placed) (fs : List Placed) → length (kept (names (f ∷ [])) order) ≤ most → length (kept (names (taken order w [] (f ∷ fs))) order) ≤ most
  taken_narrow most h f fs k = taken_within most h f [] fs k

-- one turn of a loop over the functions that wait
module _ (order : List ℕ) (w : ℕ) (fs : List Placed) (k : ℕ) (f : Placed) (ms : List Placed) (next : drop k fs ≡ f ∷ drop (k + 1) fs) where
  taken_turn : (t : Bool) → joins order w ms f.scope ≡ t → taken order w ms (drop k fs) ≡ cond t (taken order w (ms ++ f ∷ []) (drop (k + 1) fs)) (taken order w ms (drop (k + 1) fs))
  taken_turn t e = ap (taken order w ms) next ∙ ap (λ (b : Bool). cond b (taken order w (ms ++ f ∷ []) (drop (k + 1) fs)) (taken order w ms (drop (k + 1) fs))) e

  passed_turn : (t : Bool) → joins order w ms f.scope ≡ t → passed order w ms (drop k fs) ≡ cond t (passed order w (ms ++ f ∷ []) (drop (k + 1) fs)) (f ∷ passed order w ms (drop (k + 1) fs))
  passed_turn t e = ap (passed order w ms) next ∙ ap (λ (b : Bool). cond b (passed order w (ms ++ f ∷ []) (drop (k + 1) fs)) (f ∷ passed order w ms (drop (k + 1) fs))) e

  module _ (rest all_taken all_passed : List Placed) (before : taken order w ms (drop k fs) ≡ all_taken) (behind : rest ++ passed order w ms (drop k fs) ≡ all_passed) where
    pub joins_turn : joins order w ms f.scope ≡ true → (ms' rest' : List Placed) → ms' ≡ ms ++ f ∷ [] → rest' ≡ rest
        → (taken order w ms' (drop (k + 1) fs) ≡ all_taken) × (rest' ++ passed order w ms' (drop (k + 1) fs) ≡ all_passed)
    joins_turn t ms' rest' e d = (
      ap (λ (l : List Placed). taken order w l (drop (k + 1) fs)) e ∙ sym (taken_turn true t) ∙ before,
      ap₂ (λ (r l : List Placed). r ++ passed order w l (drop (k + 1) fs)) d e ∙ ap (λ (l : List Placed). rest ++ l) (sym (passed_turn true t)) ∙ behind,
    )

    pub waits_turn : joins order w ms f.scope ≡ false → (ms' rest' : List Placed) → ms' ≡ ms → rest' ≡ rest ++ f ∷ []
        → (taken order w ms' (drop (k + 1) fs) ≡ all_taken) × (rest' ++ passed order w ms' (drop (k + 1) fs) ≡ all_passed)
    waits_turn t ms' rest' e d = (
      ap (λ (l : List Placed). taken order w l (drop (k + 1) fs)) e ∙ sym (taken_turn false t) ∙ before,
      ap₂ (λ (r l : List Placed). r ++ passed order w l (drop (k + 1) fs)) d e ∙ append_assoc rest (f ∷ []) (passed order w ms (drop (k + 1) fs)) ∙ ap (λ (l : List Placed). rest ++ l) (sym (passed_turn false t)) ∙ behind,
    )
