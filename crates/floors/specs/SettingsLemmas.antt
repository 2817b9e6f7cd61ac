-- Prefixes as assignments: one that fits is in range, and begins a full setting.
use Rattle.std.specs.Prelude.{◌≡◌, ℕ, zero, suc, ◌+◌, ◌<◌, ◌≤◌, true, List, [], ◌∷◌, map, length, take, ◌==◌, slice_index, refl}
use Rattle.std.proofs.Common.{◌∙◌, ap, ap₂, arith}
use Rattle.std.proofs.lemmas.List.{length-map, get_or-map, take_all}
use Rattle.std.proofs.ByRecursion.{All-get_or}
use Rattle.std.proofs.lemmas.Bool.{or_right}
use Rattle.std.proofs.lemmas.Bool.Decides.{nat_tests}
use Rattle.costs.specs.Structures.{Structure}
use Rattle.variables.specs.Lists.{has}
use Rattle.variables.specs.Assignments.{Assignment, of, along, Full}
use Rattle.problems.specs.Problems.{Problem, cost}
use Rattle.floors.specs.Settings.{Begins, Fits, upto, in_order, costs_at}
use Rattle.floors.specs.Shapes.{Shaped, Distinct}
use Rattle.floors.specs.Scopes.{has_first, along_take, costs_agree}
use Rattle.floors.specs.Tables.{Ranged}
use Rattle.floors.specs.Covers.{known_has, covered}

pub map_same : {A : Type 0} (f g : ℕ → A) (xs : List ℕ) → ((v : ℕ) → has xs v ≡ true → f v ≡ g v) → map f xs ≡ map g xs
map_same f g [] h = refl
map_same f g (x ∷ xs) h = ap₂ ◌∷◌ (h x (has_first x xs)) (map_same f g xs (λ v k. h v (or_right (x == v) _ k)))

-- what a prefix gives along the order begins with the prefix
pub along_prefix : (order x : List ℕ) → Distinct order → length x ≤ length order → take (length x) (map (along order x) order) ≡ x
along_prefix [] [] d l = refl
along_prefix [] (c ∷ x) d l = absurd (omega arith)
along_prefix (u ∷ order) [] d l = refl
along_prefix (u ∷ order) (c ∷ x) d l =
    let first : along (u ∷ order) (c ∷ x) u ≡ c = grind (arith, nat_tests) in
    ap₂ ◌∷◌ first (ap (take (length x)) (map_same (along (u ∷ order) (c ∷ x)) (along order x) order (λ v h. grind (arith, nat_tests, d.0))) ∙ along_prefix order x d.1 (omega arith))

along_below : (sizes order x : List ℕ) (v : ℕ) → 0 < slice_index sizes v → ((i : ℕ) → i < length x → slice_index x i < slice_index sizes (slice_index order i)) → along order x v < slice_index sizes v
along_below sizes [] x v some h = some
along_below sizes (u ∷ order) [] v some h = some
along_below sizes (u ∷ order) (c ∷ x) v some h =
    grind (arith, nat_tests, h 0 (omega arith), along_below sizes order x v some (λ i l. h (suc i) (omega arith)))

upto_length : (n from : ℕ) → length (upto from n) ≡ n
upto_length zero from = refl
upto_length (suc n) from = ap suc (upto_length n (suc from))

upto_at : (n from i : ℕ) → i < n → slice_index (upto from n) i ≡ from + i
upto_at zero from i l = absurd (omega arith)
upto_at (suc n) from zero l = omega arith
upto_at (suc n) from (suc i) l = upto_at n (suc from) i (omega arith) ∙ omega arith

module _ {C : Type 0} (p : Problem C) (formed : Shaped p) where
  pub full_ranged : (s : List ℕ) → Full p.sizes s → Ranged p.sizes p.order (of s)
  full_ranged s full v h = full.1 v (known_has (length p.sizes) p.order v formed.order_known h)

  some_value : (v : ℕ) → v < length p.sizes → 0 < slice_index p.sizes v
  some_value v l = All-get_or (λ k. 0 < k) p.sizes v 0 l formed.sizes_are

  pub along_ranged : (x : List ℕ) → Fits p x → Ranged p.sizes p.order (along p.order x)
  along_ranged x fits v h = along_below p.sizes p.order x v (some_value v (known_has (length p.sizes) p.order v formed.order_known h)) fits.1

  pub extend : (x : List ℕ) → Fits p x → (s : List ℕ) × Full p.sizes s × Begins p x s
  extend x fits =
      let n : ℕ = length p.sizes in
      let a : Assignment = along p.order x in
      let s : List ℕ = map a (upto 0 n) in
      let at : (v : ℕ) → v < n → slice_index s v ≡ a v = λ v l.
      get_or-map a (upto 0 n) v 0 0 (omega (arith, upto_length n 0)) ∙ ap a (upto_at n 0 v l ∙ omega arith) in
      let same : map (of s) p.order ≡ map a p.order = map_same (of s) a p.order (λ v h. at v (known_has n p.order v formed.order_known h)) in (
        s,
        (length-map (upto 0 n) a ∙ upto_length n 0, λ v l. rw (at v l) (along_below p.sizes p.order x v (some_value v l) fits.1)),
        ap (take (length x)) same ∙ along_prefix p.order x formed.order_distinct fits.0,
      )

  pub costs_along : (K : Structure C) (s : List ℕ) → costs_at K p.sizes (along p.order (in_order p.order s)) p.functions ≡ cost K p s
  costs_along K s =
      let n : ℕ = length p.order in
      let whole : take n (map (of s) p.order) ≡ map (of s) p.order = take_all n (map (of s) p.order) (omega (arith, length-map p.order (of s))) in
      let all : take n p.order ≡ p.order = take_all n p.order (omega arith) in
      costs_agree K p.sizes p.functions _ (of s) (λ v m. rw (← whole) (along_take (of s) p.order n v (rw all (covered p formed v m))))
