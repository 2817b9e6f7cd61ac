-- A table's cell holds what the table was made from.
use Rattle.std.specs.Prelude.{◌≡◌, ℕ, zero, suc, ◌+◌, ◌*◌, ◌<◌, true, List, [], ◌∷◌, ◌++◌, map, length, get_or, ◌==◌, slice_index, slice_index_or, refl}
use Rattle.std.proofs.Common.{sym, ◌∙◌, ap, add-mul, mul_assoc, add_assoc, mul-one, zero-mul, suc-mul, mul-le-mul_right, zero-add, arith}
use Rattle.std.proofs.lemmas.List.{length-append, get_or_append_left, get_or-append-add}
use Rattle.std.proofs.lemmas.Bool.{or_right}
use Rattle.std.proofs.lemmas.Bool.Decides.{nat_tests}
use Rattle.variables.specs.Lists.{has}
use Rattle.variables.specs.Assignments.{Assignment, cell_from, cells}
use Rattle.floors.specs.Settings.{assign, upto}
use Rattle.floors.specs.MiniBuckets.{flat, tabulate}
use Rattle.floors.specs.Scopes.{has_first}

-- the cell of a tuple, its first variable's part first
abbrev pub cell : List ℕ → List ℕ → Assignment → ℕ
cell sizes [] a = 0
cell sizes (v ∷ vs) a = a v * cells sizes vs + cell sizes vs a

-- `base` with what `a` gives the scope
abbrev pub overlay : Assignment → List ℕ → Assignment → Assignment
overlay base [] a = base
overlay base (v ∷ vs) a = overlay (assign base v (a v)) vs a

pub overlay_keeps : (base : Assignment) (vs : List ℕ) (a : Assignment) (u : ℕ) → base u ≡ a u → overlay base vs a u ≡ a u
overlay_keeps base [] a u h = h
overlay_keeps base (v ∷ vs) a u h = overlay_keeps (assign base v (a v)) vs a u (grind (arith, nat_tests))

pub overlay_gives : (base : Assignment) (vs : List ℕ) (a : Assignment) (u : ℕ) → has vs u ≡ true → overlay base vs a u ≡ a u
overlay_gives base [] a u h = grind arith
overlay_gives base (v ∷ vs) a u h = grind (arith, nat_tests, overlay_gives (assign base v (a v)) vs a u, overlay_keeps (assign base v (a v)) vs a u)

module _ (sizes : List ℕ) where
  pub horner : (vs : List ℕ) (at : ℕ) (a : Assignment) → cell_from sizes at vs a ≡ at * cells sizes vs + cell sizes vs a
  horner [] at a = simp mul-one (omega arith)
  horner (v ∷ vs) at a = horner vs (at * slice_index sizes v + a v) a ∙ simp (add-mul, mul_assoc, add_assoc)

  abbrev pub Ranged : List ℕ → Assignment → Type 0
  Ranged vs a = (v : ℕ) → has vs v ≡ true → a v < slice_index sizes v

  ranged_here : (v : ℕ) (vs : List ℕ) (a : Assignment) → Ranged (v ∷ vs) a → a v < slice_index sizes v
  ranged_here v vs a h = h v (has_first v vs)

  ranged_later : (v : ℕ) (vs : List ℕ) (a : Assignment) → Ranged (v ∷ vs) a → Ranged vs a
  ranged_later v vs a h u k = h u (or_right (v == u) _ k)

  pub cell_bound : (vs : List ℕ) (a : Assignment) → Ranged vs a → cell sizes vs a < cells sizes vs
  cell_bound [] a h = omega arith
  cell_bound (v ∷ vs) a h =
      omega (arith, cell_bound vs a (ranged_later v vs a h), suc-mul (a v) (cells sizes vs), mul-le-mul_right {m = suc (a v)} {n = slice_index sizes v} (cells sizes vs) (ranged_here v vs a h))

  module _ {C : Type 0} where
    flat_length : (T : ℕ → List C) (k : ℕ) → ((c : ℕ) → length (T c) ≡ k) → (n from : ℕ) → length (flat (map T (upto from n))) ≡ n * k
    flat_length T k h zero from = sym (zero-mul k)
    flat_length T k h (suc n) from = omega (arith, length-append (T from) (flat (map T (upto (suc from) n))), h from, flat_length T k h n (suc from), suc-mul n k)

    flat_at : (T : ℕ → List C) (k : ℕ) → ((c : ℕ) → length (T c) ≡ k) → (n from c r : ℕ) (d : C) → c < n → r < k → slice_index_or (flat (map T (upto from n))) (c * k + r) d ≡ slice_index_or (T (from + c)) r d
    flat_at T k h zero from c r d l m = absurd (omega arith)
    flat_at T k h (suc n) from zero r d l m =
        let i : zero * k + r ≡ r = omega (arith, zero-mul k) in
        let j : from + zero ≡ from = omega arith in
        let within : r < length (T from) = omega (arith, h from) in
        ap (λ x. get_or (T from ++ flat (map T (upto (suc from) n))) x d) i ∙ get_or_append_left (T from) _ d r within ∙ ap (λ x. get_or (T x) r d) (sym j)
    flat_at T k h (suc n) from (suc c) r d l m =
        let i : suc c * k + r ≡ length (T from) + (c * k + r) = omega (arith, suc-mul c k, h from) in
        let j : suc from + c ≡ from + suc c = omega arith in
        ap (λ x. get_or (T from ++ flat (map T (upto (suc from) n))) x d) i ∙ get_or-append-add (T from) _ (c * k + r) d
        ∙ flat_at T k h n (suc from) c r d (omega arith) m ∙ ap (λ x. get_or (T x) r d) j

    pub tabulate_length : (vs : List ℕ) (F : Assignment → C) (base : Assignment) → length (tabulate sizes vs F base) ≡ cells sizes vs
    tabulate_length [] F base = refl
    tabulate_length (v ∷ vs) F base = flat_length (λ c. tabulate sizes vs F (assign base v c)) (cells sizes vs) (λ c. tabulate_length vs F (assign base v c)) (slice_index sizes v) 0

    tabulate_cell : (vs : List ℕ) (F : Assignment → C) (base a : Assignment) (d : C) → Ranged vs a → slice_index_or (tabulate sizes vs F base) (cell sizes vs a) d ≡ F (overlay base vs a)
    tabulate_cell [] F base a d h = refl
    tabulate_cell (v ∷ vs) F base a d h =
        flat_at (λ c. tabulate sizes vs F (assign base v c)) (cells sizes vs) (λ c. tabulate_length vs F (assign base v c)) (slice_index sizes v) 0 (a v) (cell sizes vs a) d
        (ranged_here v vs a h) (cell_bound vs a (ranged_later v vs a h))
        ∙ ap (λ c. get_or (tabulate sizes vs F (assign base v c)) (cell sizes vs a) d) (zero-add (a v))
        ∙ tabulate_cell vs F (assign base v (a v)) a d (ranged_later v vs a h)

    -- a table made from F has F's cost for a, where F goes by the scope alone
    pub tabulate_at : (vs : List ℕ) (F : Assignment → C) (base a : Assignment) (d : C) → Ranged vs a → ((b : Assignment) → ((v : ℕ) → has vs v ≡ true → b v ≡ a v) → F b ≡ F a)
        → slice_index_or (tabulate sizes vs F base) (cell_from sizes 0 vs a) d ≡ F a
    tabulate_at vs F base a d h alone =
        let i : cell_from sizes 0 vs a ≡ cell sizes vs a = horner vs 0 a ∙ omega (arith, zero-mul (cells sizes vs)) in
        ap (λ x. get_or (tabulate sizes vs F base) x d) i ∙ tabulate_cell vs F base a d h ∙ alone (overlay base vs a) (overlay_gives base vs a)
