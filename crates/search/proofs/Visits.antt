-- One visit: the prefix that is tried, and what it leads to.
use Rattle.std.proofs.Common.{◌≡◌, ℕ, zero, suc, ◌<◌, ◌≤◌, true, false, eqb, ltb, List, [], ◌∷◌, reverse, length, get_or, Option, sym, ap, ◌∙◌, subst, inl, inr, arith}
use mathlib.Core.List.{reverse-cons}
use Rattle.std.proofs.lemmas.List.{length-take, length-reverse, reverse-reverse, get_or-take, get_or_append_left, get_or_push}
use Rattle.std.proofs.lemmas.Bool.{cases_lt, cond_both, and_parts, and_from, or_cases, or_right, ltb-true, lt-ltb, eqb-true, eqb-false, both_ways}
use Rattle.std.proofs.lemmas.Bool.Decides.{nat_tests}
use Rattle.variables.specs.declared.plain.Prefix.{Prefix}
use Rattle.problems.specs.declared.shape.Shape.{Shape}
use Rattle.variables.specs.Lists.{known, distinct}
use Rattle.variables.specs.Rules.{is_order}
use Rattle.variables.specs.Records.{order_of, sizes_of, prefix_of, Longer}
use Rattle.problems.specs.Outlines.{outline, problem}
use Rattle.floors.specs.Settings.{Fits}
use Rattle.search.specs.declared.plain.Place.{Place}
use Rattle.search.specs.Searches.{Spot, size_at, fit, ended, steady, settled}
use Rattle.search.specs.Places.{spot_of}
use Rattle.search.proofs.Spots.{path_length, path_longer, fit_parts}

-- a steady search that has not ended
pub record Ready (sizes order : List ℕ) (s : Spot) : Type 0 where
  pub usable : fit sizes order s.path ≡ true
  pub deep : length s.path < length order
  pub more : s.next < size_at sizes order (length s.path)

pub ready : (sizes order : List ℕ) (s : Spot) → steady sizes order s ≡ true → ended sizes order s ≡ false → Ready sizes order s
ready sizes order s st goes =
    let first = and_parts (fit sizes order s.path) _ st in
    let second = and_parts (ltb (length s.path) (length order)) _ first.1 in
    record {
      usable = first.0;
      deep = ltb-true _ _ second.0;
      more = elim (or_cases (ended sizes order s) _ second.1) [ inl e ↦ absurd (both_ways _ goes e) | inr h ↦ ltb-true _ _ h ];
    }

-- what makes a spot steady
pub is_steady : (sizes order : List ℕ) (s : Spot) → Ready sizes order s → steady sizes order s ≡ true
is_steady sizes order s r =
    and_from _ _ r.usable (and_from _ _ (lt-ltb _ _ r.deep) (or_right (ended sizes order s) _ (lt-ltb _ _ r.more)))

pub settled_steady : (sizes order path : List ℕ) (next : ℕ) (best : Option (List ℕ)) → fit sizes order path ≡ true → length path < length order → next ≤ size_at sizes order (length path)
    → steady sizes order (settled sizes order path next best) ≡ true
settled_steady sizes order [] next best usable deep le = grind (arith, nat_tests)
settled_steady sizes order (v ∷ path) next best usable deep le =
    let parts = fit_parts sizes order v path usable in
    cond_both (eqb next (size_at sizes order (suc (length path)))) _ _ (λ (s : Spot). steady sizes order s ≡ true)
    (λ e. settled_steady sizes order path (suc v) best parts.1 (omega arith) (omega (arith, parts.0)))
    (λ e. is_steady sizes order (record { path = v ∷ path; next = next; incumbent = best })
    (record { usable = usable; deep = deep; more = let ne = eqb-false next (size_at sizes order (suc (length path))) e in omega (arith, ne) }))

-- the values of a path that fits, along the order
pub fit_at : (sizes order path : List ℕ) → fit sizes order path ≡ true → (i : ℕ) → i < length path → get_or (reverse path) i 0 < size_at sizes order i
fit_at sizes order [] h i l = absurd (omega arith)
fit_at sizes order (v ∷ path) h i l =
    let parts = fit_parts sizes order v path h in
    let long = length-reverse path in
    let Low : List ℕ → Type 0 = λ xs. get_or xs i 0 < size_at sizes order i in
    subst Low (sym (reverse-cons v path)) (elim (cases_lt i (length path)) [
      | inl k ↦ subst (λ x. x < size_at sizes order i) (sym (get_or_append_left (reverse path) (v ∷ []) 0 i (omega arith))) (fit_at sizes order path parts.1 i k)
      | inr k ↦
          let here : i ≡ length path = omega arith in
          subst (λ x. x < size_at sizes order i) (sym (get_or_push (reverse path) v 0 i (omega arith))) (subst (λ d. v < size_at sizes order d) (sym here) parts.0)
    ])

known_at : (n : ℕ) (vs : List ℕ) (d : ℕ) → known n vs ≡ true → d < length vs → get_or vs d 0 < n
known_at n [] d h l = absurd (omega arith)
known_at n (v ∷ vs) zero h l = ltb-true v n (and_parts (ltb v n) (known n vs) h).0
known_at n (v ∷ vs) (suc d) h l = known_at n vs d (and_parts (ltb v n) (known n vs) h).1 (omega arith)

-- every variable of the order has a value to try
size_some : (sh : Shape) (d : ℕ) → d < length (order_of sh.order) → 0 < size_at (sizes_of sh.sizes) (order_of sh.order) d
size_some sh d h =
    let sizes = sizes_of sh.sizes in
    let order = order_of sh.order in
    let n = length sizes in
    let v = get_or order d 0 in
    let few = length-take sh.sizes.len sh.sizes.sizes in
    elim (or_cases (eqb (length order) 0) (is_order n order) sh.ordered) [
      | inl e ↦ absurd (omega (arith, eqb-true (length order) 0 e))
      | inr e ↦
          let names = and_parts (known n order) (distinct order) (and_parts (eqb (length order) n) _ e).1 in
          let low : v < n = known_at n order d names.0 h in
          let within : v < sh.sizes.len = omega arith in
          subst (λ k. 0 < k) (sym (get_or-take sh.sizes.len sh.sizes.sizes v 0 within)) (sh.sizes.some v within)
    ]

-- the prefix that is tried
module _ (sh : Shape) (b : Place) (tried : Prefix) (longer : Longer sh.order b.prefix tried b.next)
    (now : Ready (sizes_of sh.sizes) (order_of sh.order) (spot_of sh.order b)) where
  abbrev sizes : List ℕ
  sizes = sizes_of sh.sizes

  abbrev order : List ℕ
  order = order_of sh.order

  abbrev path : List ℕ
  path = reverse (prefix_of sh.order b.prefix)

  -- the values along the order, the next one last
  pub tried_is : reverse (b.next ∷ path) ≡ prefix_of sh.order tried
  tried_is = sym (ap reverse (path_longer sh.order b.prefix tried b.next longer)) ∙ reverse-reverse (prefix_of sh.order tried)

  pub depth : length path ≡ b.prefix.len
  depth = let l = path_length sh.order b.prefix in let d = now.deep in omega arith

  pub tried_depth : tried.len ≡ suc (length path)
  tried_depth = omega (arith, longer.len, depth)

  pub tried_length : length (reverse (b.next ∷ path)) ≡ tried.len
  tried_length = length-reverse (b.next ∷ path) ∙ sym tried_depth

  pub tried_fit : fit sizes order (b.next ∷ path) ≡ true
  tried_fit = and_from _ _ (lt-ltb _ _ now.more) now.usable

  pub tried_low : tried.len ≤ length order
  tried_low = let d = now.deep in omega (arith, tried_depth)

  pub tried_fits : {C : Type 0} (area : List C) → Fits (problem (outline sh) area) (prefix_of sh.order tried)
  tried_fits {C} area = subst (Fits (problem (outline sh) area)) tried_is (
    omega (arith, tried_length, tried_low),
    λ i h. fit_at sizes order (b.next ∷ path) tried_fit i (omega (arith, length-reverse (b.next ∷ path))),
  )

  -- a deeper spot is steady, since the next variable has a value
  pub deeper_steady : (best : Option (List ℕ)) → (tried.len ≡ length order → ⊥) → steady sizes order (record { path = reverse (prefix_of sh.order tried); next = 0; incumbent = best }) ≡ true
  deeper_steady best partial =
      let long = path_longer sh.order b.prefix tried b.next longer in
      let low = tried_low in
      let deep = tried_depth in
      subst (λ xs. steady sizes order (record { path = xs; next = 0; incumbent = best }) ≡ true) (sym long)
      (is_steady sizes order (record { path = b.next ∷ path; next = 0; incumbent = best })
      (record { usable = tried_fit; deep = omega (arith, partial); more = size_some sh (suc (length path)) (omega (arith, partial)) }))

  -- one value on is steady again
  pub backed_steady : (best : Option (List ℕ)) → steady sizes order (settled sizes order path (suc b.next) best) ≡ true
  backed_steady best = settled_steady sizes order path (suc b.next) best now.usable now.deep now.more
