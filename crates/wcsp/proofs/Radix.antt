-- Tuples of their domains' values have cells of their own.
use Rattle.std.proofs.Common.{◌≡◌, ℕ, suc, ◌+◌, ◌*◌, ◌<◌, Bool, true, false, cond, not, eqb, ltb, List, [], ◌∷◌, get_or, sym, refl, ap, ◌∙◌, inl, inr, mul-le-mul_right, suc-mul, arith}
use Rattle.std.proofs.lemmas.Bool.{and_parts, cases_order, ltb-true, eq-eqb, ne_eqb, not-true, or_left, or_right}
use Rattle.variables.specs.Lists.{has, distinct}
use Rattle.variables.specs.Assignments.{Assignment, along, cell_from}
use Rattle.variables.specs.Rules.{fits}

-- a number and a digit below the base
digit_apart : (a b size x y : ℕ) → x < size → y < size → a * size + x ≡ b * size + y → (a ≡ b) × (x ≡ y)
digit_apart a b size x y hx hy e = elim (cases_order a b) [
  | inl s ↦ let t = ap (λ n. n * size) s in (s, omega arith)
  | inr (inl l) ↦ absurd (omega (arith, suc-mul a size, mul-le-mul_right {m = suc a} {n = b} size l))
  | inr (inr l) ↦ absurd (omega (arith, suc-mul b size, mul-le-mul_right {m = suc b} {n = a} size l))
]

module _ (sizes : List ℕ) where
  -- the cell by the tuple's values alone
  abbrev place : ℕ → List ℕ → List ℕ → ℕ
  place at [] xs = at
  place at (v ∷ vs) [] = at
  place at (v ∷ vs) (x ∷ xs) = place (at * get_or sizes v 0 + x) vs xs

  same_on : (vs : List ℕ) (at : ℕ) (a b : Assignment) → ((v : ℕ) → has vs v ≡ true → a v ≡ b v) → cell_from sizes at vs a ≡ cell_from sizes at vs b
  same_on [] at a b h = refl
  same_on (v ∷ vs) at a b h =
      ap (λ x. cell_from sizes (at * get_or sizes v 0 + x) vs a) (h v (or_left (eqb v v) (has vs v) (eq-eqb v v refl)))
      ∙ same_on vs (at * get_or sizes v 0 + b v) a b (λ u k. h u (or_right (eqb v u) (has vs u) k))

  tail_along : (v x : ℕ) (vs xs : List ℕ) → has vs v ≡ false → (u : ℕ) → has vs u ≡ true → along (v ∷ vs) (x ∷ xs) u ≡ along vs xs u
  tail_along v x vs xs new u h = elim (cases_order v u) [
    | inl e ↦ absurd (let z : ◌≡◌ {A = Bool} true false = sym h ∙ ap (has vs) (sym e) ∙ new in let y : ◌≡◌ {A = ℕ} 0 1 = cc in omega arith)
    | inr (inl l) ↦ ap (λ t. cond t x (along vs xs u)) (ne_eqb v u (λ e. omega arith))
    | inr (inr l) ↦ ap (λ t. cond t x (along vs xs u)) (ne_eqb v u (λ e. omega arith))
  ]

  cell_place : (vs xs : List ℕ) (at : ℕ) → distinct vs ≡ true → fits sizes vs xs ≡ true → cell_from sizes at vs (along vs xs) ≡ place at vs xs
  cell_place [] xs at d h = refl
  cell_place (v ∷ vs) [] at d h = absurd (let y : ◌≡◌ {A = ℕ} 0 1 = cc in omega arith)
  cell_place (v ∷ vs) (x ∷ xs) at d h =
      let new = not-true (has vs v) (and_parts (not (has vs v)) (distinct vs) d).0 in
      let first = ap (λ t. cond t x (along vs xs v)) (eq-eqb v v refl) in
      ap (λ y. cell_from sizes (at * get_or sizes v 0 + y) vs (along (v ∷ vs) (x ∷ xs))) first
      ∙ same_on vs (at * get_or sizes v 0 + x) (along (v ∷ vs) (x ∷ xs)) (along vs xs) (tail_along v x vs xs new)
      ∙ cell_place vs xs (at * get_or sizes v 0 + x) (and_parts (not (has vs v)) (distinct vs) d).1 (and_parts (ltb x (get_or sizes v 0)) (fits sizes vs xs) h).1

  place_apart : (vs xs ys : List ℕ) (at bt : ℕ) → fits sizes vs xs ≡ true → fits sizes vs ys ≡ true → place at vs xs ≡ place bt vs ys → (at ≡ bt) × (xs ≡ ys)
  place_apart [] [] [] at bt h k e = (e, refl)
  place_apart [] [] (y ∷ ys) at bt h k e = grind arith
  place_apart [] (x ∷ xs) ys at bt h k e = grind arith
  place_apart (v ∷ vs) [] ys at bt h k e = grind arith
  place_apart (v ∷ vs) (x ∷ xs) [] at bt h k e = grind arith
  place_apart (v ∷ vs) (x ∷ xs) (y ∷ ys) at bt h k e =
      let size = get_or sizes v 0 in
      let hs = and_parts (ltb x size) (fits sizes vs xs) h in
      let ks = and_parts (ltb y size) (fits sizes vs ys) k in
      let ih = place_apart vs xs ys (at * size + x) (bt * size + y) hs.1 ks.1 e in
      let two = digit_apart at bt size x y (ltb-true x size hs.0) (ltb-true y size ks.0) ih.0 in
      (two.0, ap (λ z. z ∷ xs) two.1 ∙ ap (λ zs. y ∷ zs) ih.1)

  -- tuples with the same cell are the same
  pub cell_apart : (vs xs ys : List ℕ) → distinct vs ≡ true → fits sizes vs xs ≡ true → fits sizes vs ys ≡ true
      → cell_from sizes 0 vs (along vs xs) ≡ cell_from sizes 0 vs (along vs ys) → xs ≡ ys
  cell_apart vs xs ys d h k e = (place_apart vs xs ys 0 0 h k (sym (cell_place vs xs 0 d h) ∙ e ∙ cell_place vs ys 0 d k)).1
