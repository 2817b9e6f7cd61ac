-- A cell's tuple, variable by variable from the last.
use Rattle.std.proofs.Common.{◌≡◌, ℕ, zero, suc, ◌+◌, ◌-◌, ◌*◌, ◌/◌, ◌%◌, ◌<◌, ◌≤◌, true, false, cond, not, ◌||◌, eqb, List, [], ◌∷◌, ◌++◌, length, get_or, take, drop, set, sym, refl, ap, ◌∙◌, ap₂, inl, inr, mod-lt, suc-mul, mul-zero, div-add-mod', zero-mul, add-one, arith}
use mathlib.Core.Path.{fun_ext}
use Rattle.std.proofs.lemmas.List.{drop_more, get_or_push, get_or-take, length_push, take_at, take-take, get_or-set_same, get_or-set_other}
use Rattle.std.proofs.lemmas.Bool.{cases_Bool, cases_eq, eqb-true, eq-eqb, ne_eqb, and_parts, not-true, both_ways}
use Rattle.variables.specs.Lists.{has, distinct}
use Rattle.variables.specs.Assignments.{Assignment, of, cells, cell_from}
use Rattle.floors.specs.Settings.{assign}
use Rattle.floors.specs.Scopes.{cell_agree}
use Rattle.buckets.proofs.Bounds.{getD_has}
use Rattle.floors.specs.Tables.{horner}

pub of_set : (xs : List ℕ) (v c : ℕ) → v < length xs → of (set xs v c) ≡ assign (of xs) v c
of_set xs v c l = fun_ext here
  where
    here : (u : ℕ) → get_or (set xs v c) u 0 ≡ cond (eqb u v) c (get_or xs u 0)
    here u = elim (cases_eq u v) [
      | inl e ↦ rw (eq-eqb u v e) (rw e (get_or-set_same xs v c 0 l))
      | inr n ↦ rw (ne_eqb u v n) (get_or-set_other xs v u c 0 n)
    ]

later_absent : (vs : List ℕ) (k : ℕ) → distinct vs ≡ true → k < length vs → has (drop (suc k) vs) (get_or vs k 0) ≡ false
later_absent [] k d l = absurd (omega arith)
later_absent (v ∷ vs) zero d l = not-true _ (and_parts (not (has vs v)) (distinct vs) d).0
later_absent (v ∷ vs) (suc k) d l = later_absent vs k (and_parts (not (has vs v)) (distinct vs) d).1 (omega arith)

positive_left : (a b : ℕ) → 0 < a * b → 0 < a
positive_left zero b h = absurd (omega (arith, zero-mul b))
positive_left (suc a) b h = omega arith

positive_right : (a b : ℕ) → 0 < a * b → 0 < b
positive_right a zero h = absurd (omega (arith, mul-zero a))
positive_right a (suc b) h = omega arith

pub some_size : (sizes vs : List ℕ) (k : ℕ) → 0 < cells sizes vs → k < length vs → 0 < get_or sizes (get_or vs k 0) 0
some_size sizes [] k h l = absurd (omega arith)
some_size sizes (v ∷ vs) zero h l = positive_left _ (cells sizes vs) h
some_size sizes (v ∷ vs) (suc k) h l = some_size sizes vs k (positive_right (get_or sizes v 0) _ h) (omega arith)

module _ (sizes vs : List ℕ) (k : ℕ) (apart : distinct vs ≡ true) (l : k < length vs) (left whole : ℕ) (values : List ℕ) (low : get_or vs k 0 < length values) (some : 0 < get_or sizes (get_or vs k 0) 0) where
  u : ℕ
  u = get_or vs k 0

  abbrev after : List ℕ
  after = set values (get_or vs k 0) (left % get_or sizes (get_or vs k 0) 0)

  keeps_later : (v : ℕ) → has (drop (k + 1) vs) v ≡ true → of after v ≡ of values v
  keeps_later v h =
      get_or-set_other values (get_or vs k 0) v (left % get_or sizes (get_or vs k 0) 0) 0
      (λ e. both_ways (has (drop (k + 1) vs) v) (rw (add-one k) (rw e (later_absent vs k apart l))) h)

  pub tuple_cell : cell_from sizes left (drop (k + 1) vs) (of values) ≡ whole → cell_from sizes (left / get_or sizes (get_or vs k 0) 0) (drop k vs) (of after) ≡ whole
  tuple_cell before =
      let s : ℕ = get_or sizes (get_or vs k 0) 0 in
      let here : of after (get_or vs k 0) ≡ left % s = get_or-set_same values (get_or vs k 0) (left % s) 0 low in
      ap (λ r. cell_from sizes (left / s) r (of after)) (drop_more vs k 0 l)
      ∙ ap (λ c. cell_from sizes (left / s * s + c) (drop (k + 1) vs) (of after)) here
      ∙ ap (λ n. cell_from sizes n (drop (k + 1) vs) (of after)) (div-add-mod' left s)
      ∙ cell_agree sizes left (drop (k + 1) vs) (of after) (of values) keeps_later
      ∙ before

  pub tuple_ranged : ((v : ℕ) → has (drop (k + 1) vs) v ≡ true → of values v < get_or sizes v 0) → (v : ℕ) → has (drop k vs) v ≡ true → of after v < get_or sizes v 0
  tuple_ranged before v h =
      let s : ℕ = get_or sizes (get_or vs k 0) 0 in
      let here : of after (get_or vs k 0) ≡ left % s = get_or-set_same values (get_or vs k 0) (left % s) 0 low in
      let open' : (eqb (get_or vs k 0) v || has (drop (k + 1) vs) v) ≡ true = ap (λ (r : List ℕ). has r v) (sym (drop_more vs k 0 l)) ∙ h in
      elim (cases_Bool (eqb (get_or vs k 0) v)) [
        | inl e ↦ rw (← eqb-true (get_or vs k 0) v e) (rw here (mod-lt left some))
        | inr e ↦
            let later : has (drop (k + 1) vs) v ≡ true = rw e at open' in
            omega (arith, keeps_later v later, before v later)
      ]

-- once all variables have their values, nothing is left
pub tuple_all : (sizes vs : List ℕ) (left whole : ℕ) (a : Assignment) → cell_from sizes left vs a ≡ whole → whole < cells sizes vs → cell_from sizes 0 vs a ≡ whole
tuple_all sizes vs zero whole a e l = e
tuple_all sizes vs (suc n) whole a e l = absurd (omega (arith, horner sizes vs (suc n) a, suc-mul n (cells sizes vs)))

-- one turn of the loop, which goes from the last variable of the scope to the first
module _ (sizes scope items : List ℕ) (e : items ≡ scope) (apart : distinct scope ≡ true) (k : ℕ) (some : 0 < k) (l : k ≤ length items) (left whole size : ℕ) (values after' : List ℕ)
    (low : get_or items (k - 1) 0 < length values) (is-size : size ≡ get_or sizes (get_or items (k - 1) 0) 0) (positive : 0 < size) (is : after' ≡ set values (get_or items (k - 1) 0) (left % size)) where
  same_item : get_or items (k - 1) 0 ≡ get_or scope (k - 1) 0
  same_item = ap (λ (vs : List ℕ). get_or vs (k - 1) 0) e

  same_size : size ≡ get_or sizes (get_or scope (k - 1) 0) 0
  same_size = is-size ∙ ap (λ v. get_or sizes v 0) same_item

  same_after : after' ≡ set values (get_or scope (k - 1) 0) (left % get_or sizes (get_or scope (k - 1) 0) 0)
  same_after = is ∙ ap₂ (λ v s. set values v (left % s)) same_item same_size

  inside : k - 1 < length scope
  inside = omega (arith, ap length e)

  next : k - 1 + 1 ≡ k
  next = omega arith

  pub turn_cell : cell_from sizes left (drop k scope) (of values) ≡ whole → cell_from sizes (left / size) (drop (k - 1) scope) (of after') ≡ whole
  turn_cell before =
      ap₂ (λ s (vs : List ℕ). cell_from sizes (left / s) (drop (k - 1) scope) (of vs)) same_size same_after
      ∙ tuple_cell sizes scope (k - 1) apart inside left whole values (omega (arith, same_item)) (omega (arith, same_size)) (ap (λ i. cell_from sizes left (drop i scope) (of values)) next ∙ before)

  pub turn_ranged : ((v : ℕ) → has (drop k scope) v ≡ true → of values v < get_or sizes v 0) → (v : ℕ) → has (drop (k - 1) scope) v ≡ true → of after' v < get_or sizes v 0
  turn_ranged before v h =
      rw same_after
      (tuple_ranged sizes scope (k - 1) apart inside left whole values (omega (arith, same_item)) (omega (arith, same_size)) (λ u m. before u (ap (λ i. has (drop i scope) u) (sym next) ∙ m)) v h)

  pub turn_others : ((v : ℕ) → has scope v ≡ false → of values v ≡ 0) → (v : ℕ) → has scope v ≡ false → of after' v ≡ 0
  turn_others before v h =
      ap (λ (l : List ℕ). get_or l v 0) same_after
      ∙ get_or-set_other values (get_or scope (k - 1) 0) v (left % get_or sizes (get_or scope (k - 1) 0) 0) 0 (λ e. both_ways (has scope v) h (ap (has scope) e ∙ getD_has scope (k - 1) inside))
      ∙ before v h

-- the variables still to come, seen from the end: those before one more step back
module _ (scope rest rest' : List ℕ) (v : ℕ) (front : rest ≡ take (length rest) scope) (few : length rest ≤ length scope) (step : rest ≡ rest' ++ v ∷ []) where
  pub back_length : length rest ≡ length rest' + 1
  back_length = ap length step ∙ length_push rest' v

  pub back_value : v ≡ get_or scope (length rest - 1) 0
  back_value =
      let last : length rest' ≡ length rest - 1 = omega (arith, back_length) in
      sym (get_or_push rest' v 0 (length rest - 1) last) ∙ ap (λ (xs : List ℕ). get_or xs (length rest - 1) 0) (sym step ∙ front) ∙ get_or-take (length rest) scope (length rest - 1) 0 (omega (arith, back_length))

  pub back_front : rest' ≡ take (length rest') scope
  back_front = sym (take_at rest' (v ∷ []) (length rest') refl) ∙ ap (take (length rest')) (sym step ∙ front) ∙ take-take (length rest') (length rest) scope (omega (arith, back_length))
