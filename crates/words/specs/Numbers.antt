-- The number that a word spells.
use Rattle.std.specs.Prelude.{ℕ, ◌+◌, ◌-◌, ◌*◌, Bool, cond, ◌&&◌, List, [], ◌∷◌, length, Some, None, Option, nat_le}

-- the bytes of the decimal digits
abbrev pub digit : ℕ → Bool
digit b = nat_le 48 b && nat_le b 57

-- what digits after the number n make of it, if all are digits
abbrev pub digits_from : ℕ → List ℕ → Option ℕ
digits_from n [] = Some n
digits_from n (b ∷ bytes) = cond (digit b) (digits_from (n * 10 + (b - 48)) bytes) None

-- a number that fits 32 bits
abbrev pub held : Option ℕ → Option ℕ
held None = None
held (Some n) = cond (nat_le n 4294967295) (Some n) None

-- one to ten decimal digits worth at most 4,294,967,295; leading zeros count as digits
abbrev pub number : List ℕ → Option ℕ
number bytes = cond (nat_le 1 (length bytes) && nat_le (length bytes) 10) (held (digits_from 0 bytes)) None
