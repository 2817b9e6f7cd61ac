-- The variables of plain records are below 32.
use Rattle.std.proofs.Common.{◌≡◌, ℕ, zero, suc, ◌<◌, true, eqb, ltb, List, [], ◌∷◌, length, get_or, inl, inr, arith}
use Rattle.std.proofs.lemmas.List.{get_or_past, get_or-take, length-take}
use Rattle.std.proofs.lemmas.Bool.{cases_lt, and_parts, ltb-true}
use Rattle.variables.specs.declared.plain.Sizes.{Sizes}
use Rattle.std.proofs.lemmas.Bool.Decides.{nat_tests}
use Rattle.variables.specs.Lists.{has, known, distinct}
use Rattle.variables.specs.Records.{order_of, scope_of, sizes_of}
use Rattle.variables.specs.declared.plain.Order.{Order}
use Rattle.variables.specs.declared.plain.Scope.{Scope}
use Rattle.variables.specs.Rules.{is_order}
use Rattle.floors.specs.Climbs.{take_has}

each_low : (m : ℕ) (xs : List ℕ) → ((p : ℕ) → get_or xs p 0 < m) → (v : ℕ) → has xs v ≡ true → v < m
each_low m [] h v k = grind arith
each_low m (x ∷ xs) h v k = let ih = each_low m xs (λ p. h (suc p)) v in let here : x < m = h 0 in grind (arith, nat_tests)

pub order_low : (o : Order) (v : ℕ) → has (order_of o) v ≡ true → v < 32
order_low o v h = each_low 32 (order_of o) o.within v h

pub scope_low : (s : Scope) (v : ℕ) → has (scope_of s) v ≡ true → v < 32
scope_low s v h = each_low 32 s.variables s.within v (take_has s.len s.variables v h)

-- a variable with values is one of the sizes, and its values are at most 16
pub sized_low : (s : Sizes) (v : ℕ) → 0 < get_or (sizes_of s) v 0 → v < 32
sized_low s v h = elim (cases_lt v 32) [
  | inl l ↦ l
  | inr l ↦ absurd (omega (arith, get_or_past (sizes_of s) v 0 (omega (arith, length-take s.len s.sizes))))
]

known_at : (n : ℕ) (xs : List ℕ) (p : ℕ) → known n xs ≡ true → p < length xs → get_or xs p 0 < n
known_at n [] p h l = absurd (omega arith)
known_at n (x ∷ xs) zero h l = ltb-true x n (and_parts (ltb x n) (known n xs) h).0
known_at n (x ∷ xs) (suc p) h l = known_at n xs p (and_parts (ltb x n) (known n xs) h).1 (omega arith)

-- a variable of an order has values
pub order_sized : (s : Sizes) (order : List ℕ) (p : ℕ) → is_order (length (sizes_of s)) order ≡ true → p < length order → 0 < get_or (sizes_of s) (get_or order p 0) 0
order_sized s order p o l =
    let n = length (sizes_of s) in
    let know = (and_parts (known n order) (distinct order) (and_parts (eqb (length order) n) _ o).1).0 in
    let low = known_at n order p know l in
    let few = length-take s.len s.sizes in
    let v = get_or order p 0 in
    let in' : v < s.len = omega arith in
    omega (arith, get_or-take s.len s.sizes v 0 in', s.some v in')
