-- A search stays steady, whatever the floors are.
use Rattle.std.proofs.Common.{◌≡◌, ℕ, zero, suc, ◌<◌, ◌≤◌, Bool, true, false, ◌&&◌, ◌||◌, eqb, ltb, List, [], ◌∷◌, reverse, length, Some, Option, refl, inl, inr, arith}
use Rattle.std.proofs.lemmas.Bool.{cond_both, cases_Bool}
use Rattle.std.proofs.lemmas.List.{length-reverse}
use Rattle.std.proofs.lemmas.Bool.Decides.{nat_tests}
use Rattle.costs.specs.Structures.{Structure, cheaper}
use Rattle.problems.specs.Problems.{Problem}
use Rattle.floors.specs.Settings.{Formed}
use Rattle.floors.specs.Shapes.{shaped}
use Rattle.search.specs.Searches.{Spot, Search, Ran, start, size_at, ended, fit, steady, settled, path_cost, visited, ran}
use Rattle.search.proofs.Points.{size_positive}

-- the parts of being steady
pub record Steady (sizes order : List ℕ) (s : Spot) : Type 0 where
  pub fits : fit sizes order s.path ≡ true
  pub deep : length s.path < length order
  pub more : ended sizes order s ≡ false → s.next < size_at sizes order (length s.path)

both : (a b c d : Bool) (P : Type 0) → (a && (b && (c || d))) ≡ true → (a ≡ true → b ≡ true → (c ≡ false → d ≡ true) → P) → P
both a b c d P h k = k (grind arith) (grind arith) (grind arith)

module _ (sizes order : List ℕ) where
  pub steady_parts : (s : Spot) → steady sizes order s ≡ true → Steady sizes order s
  steady_parts s h =
      both (fit sizes order s.path) (ltb (length s.path) (length order)) (ended sizes order s) (ltb s.next (size_at sizes order (length s.path))) (Steady sizes order s) h
      (λ a b c. record { fits = a; deep = grind (arith, nat_tests); more = λ e. grind (arith, nat_tests, c e) })

  pub steady_from : (s : Spot) → Steady sizes order s → steady sizes order s ≡ true
  steady_from s h = grind (arith, nat_tests, h.fits, h.deep, h.more)

  pub settled_steady : (path : List ℕ) (next : ℕ) (best : Option (List ℕ)) → fit sizes order path ≡ true → length path < length order → next ≤ size_at sizes order (length path)
      → steady sizes order (settled sizes order path next best) ≡ true
  settled_steady [] next best fits deep within = steady_from (record { path = []; next = next; incumbent = best }) (record { fits = refl; deep = deep; more = λ e. grind (arith, nat_tests) })
  settled_steady (v ∷ path) next best fits deep within =
      cond_both (eqb next (size_at sizes order (suc (length path)))) _ _ (λ s. steady sizes order s ≡ true)
      (λ e. settled_steady path (suc v) best (grind arith) (omega arith) (grind (arith, nat_tests)))
      (λ e. steady_from (record { path = v ∷ path; next = next; incumbent = best }) (record { fits = fits; deep = deep; more = λ _. grind (arith, nat_tests) }))

-- a run with a visit to make stops if the search has ended, and goes on from the visit if not
pub ran_both : {C : Type 0} (K : Structure C) (p : Problem C) (floor : List ℕ → C) (k : ℕ) (s : Search C) (P : Ran C → Type 0)
    → (ended p.sizes p.order s.spot ≡ true → P (record { visits = 0; search = s }))
    → (ended p.sizes p.order s.spot ≡ false → P (record { visits = suc (ran K p floor k (visited K p floor s)).visits; search = (ran K p floor k (visited K p floor s)).search }))
    → P (ran K p floor (suc k) s)
ran_both K p floor k s P stop go = elim (cases_Bool (ended p.sizes p.order s.spot)) [ inl e ↦ rw (e, ran) (stop e) | inr e ↦ rw (e, ran) (go e) ]

module _ {C : Type 0} {p : Problem C} (formed : Formed p) where
  pub steady_start : 0 < length p.sizes → steady p.sizes p.order start ≡ true
  steady_start some =
      let F = shaped p formed in
      let long : 0 < length p.order = omega (arith, F.order_length) in
      steady_from p.sizes p.order start (record { fits = refl; deep = long; more = λ _. size_positive F 0 long })

module _ {C : Type 0} (K : Structure C) (p : Problem C) (floor : List ℕ → C) (formed : Formed p) where
  pub steady_visited : (s : Search C) → ended p.sizes p.order s.spot ≡ false → steady p.sizes p.order s.spot ≡ true → steady p.sizes p.order (visited K p floor s).spot ≡ true
  steady_visited s goes_on holds =
      cond_both (eqb (length y) (length p.order)) _ _ On
      (λ e. cond_both (cheaper K (path_cost K p y) s.bar) _ _ On (λ c. pass (Some y)) (λ c. pass s.spot.incumbent))
      (λ e. cond_both (cheaper K (floor y) s.bar) _ _ On (λ c. deeper (grind (arith, nat_tests, length_y))) (λ c. pass s.spot.incumbent))
    where
      On : Search C → Type 0
      On t = steady p.sizes p.order t.spot ≡ true

      now : Steady p.sizes p.order s.spot
      now = steady_parts p.sizes p.order s.spot holds

      y : List ℕ
      y = reverse (s.spot.next ∷ s.spot.path)

      length_y : length y ≡ suc (length s.spot.path)
      length_y = length-reverse (s.spot.next ∷ s.spot.path)

      pass : (best : Option (List ℕ)) → steady p.sizes p.order (settled p.sizes p.order s.spot.path (suc s.spot.next) best) ≡ true
      pass best = settled_steady p.sizes p.order s.spot.path (suc s.spot.next) best now.fits now.deep (now.more goes_on)

      deeper : suc (length s.spot.path) < length p.order → steady p.sizes p.order (record { path = s.spot.next ∷ s.spot.path; next = 0; incumbent = s.spot.incumbent }) ≡ true
      deeper l =
          steady_from p.sizes p.order (record { path = s.spot.next ∷ s.spot.path; next = 0; incumbent = s.spot.incumbent }) (record {
            fits = grind (arith, nat_tests, now.fits, now.more goes_on);
            deep = l;
            more = λ _. size_positive (shaped p formed) (suc (length s.spot.path)) l;
          })

  pub steady_ran : (k : ℕ) (s : Search C) → steady p.sizes p.order s.spot ≡ true → steady p.sizes p.order (ran K p floor k s).search.spot ≡ true
  steady_ran zero s holds = holds
  steady_ran (suc k) s holds =
      ran_both K p floor k s (λ r. steady p.sizes p.order r.search.spot ≡ true)
      (λ e. holds)
      (λ e. steady_ran k (visited K p floor s) (steady_visited s e holds))
