-- Full settings, and the same by their values along the order.
use Rattle.std.proofs.Common.{◌≡◌, ℕ, zero, suc, ◌+◌, ◌<◌, true, eqb, List, [], ◌∷◌, map, length, get_or, sym, refl, ap, ◌∙◌, ap₂, zero-add, arith}
use Rattle.std.proofs.lemmas.List.{length-map, get_or-map, take_all}
use Rattle.std.proofs.ByRecursion.{All-get_or}
use Rattle.std.proofs.lemmas.Bool.{or_right}
use Rattle.costs.specs.Structures.{Structure}
use Rattle.variables.specs.Lists.{has}
use Rattle.variables.specs.Assignments.{Full, of, along}
use Rattle.problems.specs.Problems.{Problem, cost}
use Rattle.floors.specs.Settings.{in_order, upto, Fits}
use Rattle.floors.specs.Shapes.{Shaped, Known}
use Rattle.floors.specs.Scopes.{has_first}
use Rattle.floors.specs.Covers.{known_has, covers}
use Rattle.floors.specs.SettingsLemmas.{along_prefix, along_ranged, costs_along}
use Rattle.search.specs.Searches.{size_at, path_cost}
use Rattle.search.specs.Finds.{setting}

-- full values along the order
abbrev pub Point : {C : Type 0} → Problem C → List ℕ → Type 0
Point p x = (length x ≡ length p.order) × ((d : ℕ) → d < length p.order → get_or x d 0 < size_at p.sizes p.order d)

known_at : (n : ℕ) (l : List ℕ) → Known n l → (d : ℕ) → d < length l → get_or l d 0 < n
known_at n [] k d h = absurd (omega arith)
known_at n (u ∷ l) k zero h = k.0
known_at n (u ∷ l) k (suc d) h = known_at n l k.1 d (omega arith)

upto_length : (from n : ℕ) → length (upto from n) ≡ n
upto_length from zero = refl
upto_length from (suc n) = ap suc (upto_length (suc from) n)

upto_at : (from n v : ℕ) → v < n → get_or (upto from n) v 0 ≡ from + v
upto_at from zero v h = absurd (omega arith)
upto_at from (suc n) zero h = omega arith
upto_at from (suc n) (suc v) h = omega (arith, upto_at (suc from) n v (omega arith))

map_same : (f g : ℕ → ℕ) (l : List ℕ) → ((v : ℕ) → has l v ≡ true → f v ≡ g v) → map f l ≡ map g l
map_same f g [] h = refl
map_same f g (u ∷ l) h = ap₂ ◌∷◌ (h u (has_first u l)) (map_same f g l (λ v e. h v (or_right (eqb u v) (has l v) e)))

module _ {C : Type 0} {p : Problem C} (F : Shaped p) where
  order_at : (d : ℕ) → d < length p.order → get_or p.order d 0 < length p.sizes
  order_at = known_at (length p.sizes) p.order F.order_known

  pub size_positive : (d : ℕ) → d < length p.order → 0 < size_at p.sizes p.order d
  size_positive d h = All-get_or (λ k. 0 < k) p.sizes (get_or p.order d 0) 0 (order_at d h) F.sizes_are

  pub point_in_order : (t : List ℕ) → Full p.sizes t → Point p (in_order p.order t)
  point_in_order t full = (length-map p.order (of t), λ d h. rw (get_or-map (of t) p.order d 0 0 h) (full.1 (get_or p.order d 0) (order_at d h)))

  setting_at : (y : List ℕ) (v : ℕ) → v < length p.sizes → of (setting p y) v ≡ along p.order y v
  setting_at y v h =
      get_or-map (along p.order y) (upto 0 (length p.sizes)) v 0 0 (rw upto_length h) ∙ ap (along p.order y) (upto_at 0 (length p.sizes) v h ∙ zero-add v)

  point_fits : (y : List ℕ) → Point p y → Fits p y
  point_fits y point = (omega (arith, point.0), λ i l. point.1 i (omega (arith, point.0)))

  pub full_setting : (y : List ℕ) → Point p y → Full p.sizes (setting p y)
  full_setting y point = (
    length-map (upto 0 (length p.sizes)) (along p.order y) ∙ upto_length 0 (length p.sizes),
    λ v h. rw (setting_at y v h) (along_ranged p F y (point_fits y point) v (covers p F v h)),
  )

  pub in_order_setting : (y : List ℕ) → Point p y → in_order p.order (setting p y) ≡ y
  in_order_setting y point =
      let same = map_same (of (setting p y)) (along p.order y) p.order (λ v h. setting_at y v (known_has (length p.sizes) p.order v F.order_known h)) in
      let long : length (map (along p.order y) p.order) ≡ length y = length-map p.order (along p.order y) ∙ sym point.0 in
      same ∙ sym (take_all (length y) (map (along p.order y) p.order) (omega arith)) ∙ along_prefix p.order y F.order_distinct (point_fits y point).0

  pub cost_in_order : (K : Structure C) (t : List ℕ) → cost K p t ≡ path_cost K p (in_order p.order t)
  cost_in_order K t = sym (costs_along p F K t)

  pub cost_setting : (K : Structure C) (y : List ℕ) → Point p y → cost K p (setting p y) ≡ path_cost K p y
  cost_setting K y point = cost_in_order K (setting p y) ∙ ap (path_cost K p) (in_order_setting y point)
