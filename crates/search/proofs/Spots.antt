-- A place's path: how long it is, and one value more or less.
use Rattle.std.proofs.Common.{◌≡◌, ℕ, ◌<◌, ◌≤◌, min, true, ltb, List, [], ◌∷◌, reverse, length, get_or, take, refl, ap, ◌∙◌, inl, inr, arith}
use Rattle.std.proofs.lemmas.List.{length-map, length-take, length-reverse, reverse-append, get_or_past, get_or-take}
use Rattle.std.proofs.lemmas.Bool.{cases_lt, and_parts, ltb-true}
use Rattle.variables.specs.declared.plain.Order.{Order}
use Rattle.variables.specs.declared.plain.Sizes.{Sizes}
use Rattle.variables.specs.declared.plain.Prefix.{Prefix}
use Rattle.variables.specs.Assignments.{of}
use Rattle.variables.specs.Records.{order_of, sizes_of, values_of, prefix_of, Longer, Shorter}
use Rattle.search.specs.Searches.{size_at, fit}

pub path_length : (o : Order) (p : Prefix) → length (reverse (prefix_of o p)) ≡ min p.len (length (order_of o))
path_length o p =
    length-reverse (prefix_of o p) ∙ length-map (take p.len (order_of o)) (of (values_of p.setting)) ∙ length-take p.len (order_of o)

pub path_long : (o : Order) (p : Prefix) → p.len ≤ length (order_of o) → length (reverse (prefix_of o p)) ≡ p.len
path_long o p h = omega (arith, path_length o p)

pub path_longer : (o : Order) (b a : Prefix) (v : ℕ) → Longer o b a v → reverse (prefix_of o a) ≡ v ∷ reverse (prefix_of o b)
path_longer o b a v h = ap reverse h.values ∙ reverse-append (prefix_of o b) (v ∷ [])

pub path_shorter : (o : Order) (b a : Prefix) (v : ℕ) → Shorter o b a v → reverse (prefix_of o b) ≡ v ∷ reverse (prefix_of o a)
path_shorter o b a v h = ap reverse h.values ∙ reverse-append (prefix_of o a) (v ∷ [])

pub none_left : (xs : List ℕ) → length xs ≡ 0 → xs ≡ []
none_left [] h = refl
none_left (x ∷ xs) h = absurd (omega arith)

-- a domain has at most 16 values
pub size_small : (s : Sizes) (order : List ℕ) (d : ℕ) → size_at (sizes_of s) order d ≤ 16
size_small s order d =
    let v = get_or order d 0 in
    elim (cases_lt v s.len) [
      | inl h ↦ omega (arith, get_or-take s.len s.sizes v 0 h, s.small v)
      | inr h ↦ omega (arith, length-take s.len s.sizes, get_or_past (sizes_of s) v 0 (omega (arith, length-take s.len s.sizes)))
    ]

-- the parts of a path's fit
pub fit_parts : (sizes order : List ℕ) (v : ℕ) (path : List ℕ) → fit sizes order (v ∷ path) ≡ true → (v < size_at sizes order (length path)) × (fit sizes order path ≡ true)
fit_parts sizes order v path h =
    let both = and_parts (ltb v (size_at sizes order (length path))) (fit sizes order path) h in
    (ltb-true v (size_at sizes order (length path)) both.0, both.1)
