-- An order that names as many variables as there are, each once, names them all.
use Rattle.std.specs.Prelude.{◌≡◌, ℕ, zero, suc, ◌<◌, ◌≤◌, Bool, true, false, not, List, [], ◌∷◌, length, ◌==◌}
use Rattle.std.proofs.Common.{inl, inr, arith}
use Rattle.std.specs.List.{AllByRecursion}
use Rattle.std.proofs.lemmas.Bool.{cond_both, cases_Bool}
use Rattle.std.proofs.lemmas.Bool.Decides.{nat_tests}
use Rattle.variables.specs.Lists.{has}
use Rattle.problems.specs.Problems.{Function, Problem}
use Rattle.floors.specs.Settings.{kept}
use Rattle.floors.specs.Shapes.{Shaped, Distinct, Known}
use Rattle.floors.specs.Scopes.{kept_has, Within}

pub known_has : (n : ℕ) (xs : List ℕ) (v : ℕ) → Known n xs → has xs v ≡ true → v < n
known_has n [] v k h = grind arith
known_has n (x ∷ xs) v k h = grind (arith, nat_tests, known_has n xs v k.1, k.0)

distinct_kept : (p : ℕ → Bool) (xs : List ℕ) → Distinct xs → Distinct (kept p xs)
distinct_kept p [] d = d
distinct_kept p (x ∷ xs) d =
    cond_both (p x) (x ∷ kept p xs) (kept p xs) Distinct (λ _. (grind (arith, kept_has p xs x, d.0), distinct_kept p xs d.1)) (λ _. distinct_kept p xs d.1)

abbrev but : ℕ → List ℕ → List ℕ
but n xs = kept (λ x. not (x == n)) xs

known_but : (n : ℕ) (xs : List ℕ) → Known (suc n) xs → Known n (but n xs)
known_but n [] k = k
known_but n (x ∷ xs) k = cond_both (not (x == n)) (x ∷ but n xs) (but n xs) (Known n) (λ e. (grind (arith, nat_tests, k.0), known_but n xs k.1)) (λ _. known_but n xs k.1)

length_without : (n : ℕ) (xs : List ℕ) → has xs n ≡ false → length xs ≤ length (but n xs)
length_without n [] h = omega arith
length_without n (x ∷ xs) h = grind (arith, nat_tests, length_without n xs)

length_but : (n : ℕ) (xs : List ℕ) → Distinct xs → length xs ≤ suc (length (but n xs))
length_but n [] d = omega arith
length_but n (x ∷ xs) d = grind (arith, nat_tests, length_but n xs d.1, length_without n xs, d.0)

pub at_most : (n : ℕ) (xs : List ℕ) → Known n xs → Distinct xs → length xs ≤ n
at_most zero [] k d = omega arith
at_most zero (x ∷ xs) k d = let low : x < 0 = k.0 in absurd (omega arith)
at_most (suc n) xs k d = omega (arith, length_but n xs d, at_most n (but n xs) (known_but n xs k) (distinct_kept _ xs d))

scopes_known_has : {C : Type 0} (n : ℕ) (fs : List (Function C)) → AllByRecursion (λ f. Known n f.scope) fs → Within (λ v. v < n) fs
scopes_known_has n [] h v m = grind arith
scopes_known_has n (f ∷ fs) h v m = grind (arith, known_has n f.scope v h.0, scopes_known_has n fs h.1 v)

module _ {C : Type 0} (p : Problem C) (formed : Shaped p) where
  pub covers : (v : ℕ) → v < length p.sizes → has p.order v ≡ true
  covers v l =
      elim (cases_Bool (has p.order v)) [
        | inl e ↦ e
        | inr e ↦ absurd (omega (arith, at_most (length p.sizes) (v ∷ p.order) (l, formed.order_known) (e, formed.order_distinct), formed.order_length))
      ]

  pub covered : Within (λ v. has p.order v ≡ true) p.functions
  covered v m = covers v (scopes_known_has (length p.sizes) p.functions formed.scopes_known v m)
