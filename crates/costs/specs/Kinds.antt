-- The three structures that are built.
use Rattle.std.specs.Prelude.{Bool, cond, ◌&&◌, ◌||◌, ℕ, ◌+◌, min, max, eqb, leb, ltb}
use Rattle.costs.specs.declared.pair.Pair.{Pair}
use Rattle.costs.specs.Structures.{Structure}

-- sums that stop at the greatest number of 32 bits
abbrev pub sum : Structure ℕ
sum = record {
  stands = λ a. min a 4294967295;
  neutral = 0;
  combined = λ a b. min (a + b) 4294967295;
  at_most = λ a b. leb (min a 4294967295) (min b 4294967295);
}

-- the greater of two numbers of 16 bits
abbrev pub worst : Structure ℕ
worst = record {
  stands = λ a. min a 65535;
  neutral = 0;
  combined = λ a b. min (max a b) 65535;
  at_most = λ a b. leb (min a 65535) (min b 65535);
}

-- a ranked cost is made of two numbers: each stops at 65,535, and a full first number fills the second
abbrev pub ranked_of : ℕ → ℕ → Pair
ranked_of a b = record { first = min a 65535; second = cond (leb 65535 a) 65535 (min b 65535) }

-- compared first by first
abbrev pub pair_at_most : Pair → Pair → Bool
pair_at_most p q = ltb p.first q.first || (eqb p.first q.first && leb p.second q.second)

-- pairs added number by number; any pair stands for the cost that making it gives
abbrev pub ranked : Structure Pair
ranked = record {
  stands = λ p. ranked_of p.first p.second;
  neutral = record { first = 0; second = 0 };
  combined = λ p q. ranked_of (p.first + q.first) (p.second + q.second);
  at_most = λ p q. pair_at_most (ranked_of p.first p.second) (ranked_of q.first q.second);
}
