-- Tables' cells: how many, and which.
use Rattle.std.proofs.Common.{◌≡◌, ℕ, ◌+◌, ◌*◌, ◌^◌, ◌<◌, ◌≤◌, List, length, get_or, sym, ap, ◌∙◌, inl, inr, mul-le-mul, mul-le-mul_left, pow-suc, add-one, arith, lit<, w64, Fits}
use native.Mathlib.Nat.{pow-le-pow_right}
use mir.Facts.{Fits-below}
use Rattle.std.proofs.lemmas.List.{length-take, get_or-take, get_or_past}
use Rattle.std.proofs.lemmas.Bool.{cases_lt}
use Rattle.variables.specs.declared.plain.Sizes.{Sizes}
use Rattle.variables.specs.declared.plain.Scope.{Scope}
use Rattle.variables.specs.Records.{sizes_of, scope_of}

-- a size is read off its slot, known or not
pub size_slot : (s : Sizes) (v : ℕ) → get_or (sizes_of s) v 0 ≡ get_or s.sizes v 0
size_slot s v = elim (cases_lt v s.len) [
  | inl h ↦ get_or-take s.len s.sizes v 0 h
  | inr h ↦ get_or_past (sizes_of s) v 0 (omega (arith, length-take s.len s.sizes)) ∙ sym (s.rest v h)
]

-- the variable at a place of a scope's slice
module _ (s : Scope) (vs : List ℕ) (e : vs ≡ scope_of s) (i : ℕ) (h : i < length vs) where
  pub in_scope : i < length (scope_of s)
  in_scope = rw (← e) h

  pub arity_few : i < 5
  arity_few = omega (arith, in_scope, length-take s.len s.variables)

  pub variable_slot : get_or vs i 0 < 32
  variable_slot = rw (e, get_or-take s.len s.variables i 0 (omega (arith, in_scope, length-take s.len s.variables))) (s.within i)

next_power : (i : ℕ) → 16 ^ (i + 1) ≡ 16 ^ i * 16
next_power i = ap (λ k. 16 ^ k) (add-one i) ∙ pow-suc 16 i

power_few : (i : ℕ) → i ≤ 5 → 16 ^ i ≤ 1048576
power_few i h = pow-le-pow_right {n = 16} (lit< tt) {i = i} {j = 5} h

-- what one more variable makes of a place, whatever its value
pub place_more : (at size value i : ℕ) → at + 17 ≤ 17 * 16 ^ i → size ≤ 16 → value ≤ 255 → at * size + value + 17 ≤ 17 * 16 ^ (i + 1)
place_more at size value i h s v = omega (arith, next_power i, mul-le-mul_left at s)

pub place_few : (at i : ℕ) → i ≤ 5 → at + 17 ≤ 17 * 16 ^ i → at ≤ 17825792
place_few at i few h = omega (arith, power_few i few)

pub place_fits : (at i n : ℕ) → i ≤ 5 → at + 17 ≤ 17 * 16 ^ i → n ≤ at → Fits w64 n
place_fits at i n few h k = Fits-below {n = 17825792} tt (omega (arith, place_few at i few h))

-- what one more variable makes of a count
pub count_more : (count size i : ℕ) → count ≤ 16 ^ i → size ≤ 16 → count * size ≤ 16 ^ (i + 1)
count_more count size i h s = omega (arith, next_power i, mul-le-mul h s)

pub count_few : (count i : ℕ) → i ≤ 5 → count ≤ 16 ^ i → count ≤ 1048576
count_few count i few h = omega (arith, power_few i few)

pub count_fits : (count i : ℕ) → i ≤ 5 → count ≤ 16 ^ i → Fits w64 count
count_fits count i few h = Fits-below {n = 1048576} tt (count_few count i few h)
