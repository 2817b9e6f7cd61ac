-- The rules of the variables' records, as rows of the table of refusals.
use Rattle.std.specs.Prelude.{ℕ, Bool, true, false, not, ◌&&◌, ◌||◌, List, [], ◌∷◌, length, ◌==◌, nat_le, nat_lt, slice_index}
use Rattle.variables.specs.declared.refusal.Refusal.TheVariants.{Variables, Size, Scope, Order}
use Rattle.variables.specs.Refusals.{Row}
use Rattle.variables.specs.Lists.{has, known, distinct}

-- a domain has 1 to 16 values
abbrev pub domain : ℕ → Bool
domain size = nat_le 1 size && nat_le size 16

abbrev pub domains : List ℕ → Bool
domains [] = true
domains (size ∷ sizes) = domain size && domains sizes

-- 1 to 32 variables, each with a domain
abbrev pub sizes_rows : List ℕ → List Row
sizes_rows sizes =
    record { when = length sizes == 0 || nat_lt 32 (length sizes); refusal = Variables } ∷
    record { when = not (domains sizes); refusal = Size } ∷ []

-- one variable more
abbrev pub size_rows : List ℕ → ℕ → List Row
size_rows sizes size =
    record { when = nat_le 32 (length sizes); refusal = Variables } ∷
    record { when = not (domain size); refusal = Size } ∷ []

-- at most so many of the n variables, each one known and none repeated
abbrev pub chosen : ℕ → ℕ → List ℕ → Bool
chosen most n vs = nat_le (length vs) most && (known n vs && distinct vs)

-- whether a further variable is one too many, unknown or repeated
abbrev pub barred : ℕ → ℕ → List ℕ → ℕ → Bool
barred most n vs v = nat_le most (length vs) || (nat_le n v || has vs v)

-- a scope has at most five variables
abbrev pub proper : ℕ → List ℕ → Bool
proper n scope = chosen 5 n scope

abbrev pub scope_rows : ℕ → List ℕ → List Row
scope_rows n scope = record { when = not (proper n scope); refusal = Scope } ∷ []

-- one variable more in a scope
abbrev pub variable_rows : ℕ → List ℕ → ℕ → List Row
variable_rows n scope v = record { when = barred 5 n scope v; refusal = Scope } ∷ []

-- a tuple has a value of its domain for each variable of the scope
abbrev pub fits : List ℕ → List ℕ → List ℕ → Bool
fits sizes [] [] = true
fits sizes [] (c ∷ cs) = false
fits sizes (v ∷ vs) [] = false
fits sizes (v ∷ vs) (c ∷ cs) = nat_lt c (slice_index sizes v) && fits sizes vs cs

-- an order names each of the n variables once
abbrev pub is_order : ℕ → List ℕ → Bool
is_order n order = length order == n && (known n order && distinct order)

abbrev pub order_rows : ℕ → List ℕ → List Row
order_rows n order = record { when = not (is_order n order); refusal = Order } ∷ []

-- there is no order yet, or it is one
abbrev pub no_order_or : ℕ → List ℕ → Bool
no_order_or n order = length order == 0 || is_order n order

-- one variable more in an order
abbrev pub next_rows : ℕ → List ℕ → ℕ → List Row
next_rows n order v = record { when = barred 32 n order v; refusal = Order } ∷ []
