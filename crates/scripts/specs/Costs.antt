-- Costs as words: what a word spells, and what is printed of a cost.
use Rattle.std.specs.Prelude.{ℕ, ◌+◌, cond, List, ◌++◌, length, take, drop, Some, None, codes, decimal, Option, ◌==◌, nat_le, nat_lt}
use Rattle.std.specs.List.{position_or_len}
use Rattle.costs.specs.declared.pair.Pair.{Pair}
use Rattle.costs.specs.Kinds.{ranked_of}
use Rattle.words.specs.Numbers.{number}

-- a number, if it is at most so much
abbrev pub at_most : ℕ → Option ℕ → Option ℕ
at_most most None = None
at_most most (Some n) = cond (nat_le n most) (Some n) None

-- a number of 32 bits
abbrev pub sum_word : List ℕ → Option ℕ
sum_word word = number word

-- a number of 16 bits
abbrev pub worst_word : List ℕ → Option ℕ
worst_word word = at_most 65535 (number word)

-- a number from 0 to 255
abbrev pub short_word : List ℕ → Option ℕ
short_word word = at_most 255 (number word)

-- the place of the first comma, or the word's end
abbrev pub comma : List ℕ → ℕ
comma word = position_or_len (λ b. b == 44) word

-- the pair of two numbers, if both are there
abbrev pub both : Option ℕ → Option ℕ → Option Pair
both None second = None
both (Some a) None = None
both (Some a) (Some b) = Some (record { first = a; second = b })

-- two numbers of 16 bits with a comma between them, as the plain pair
abbrev pub ranked_word : List ℕ → Option Pair
ranked_word word = cond (nat_lt (comma word) (length word)) (both (worst_word (take (comma word) word)) (worst_word (drop (comma word + 1) word))) None

-- both numbers, with a comma between them
abbrev pub pair_line : Pair → List ℕ
pair_line p = decimal p.first ++ (codes "," ++ decimal p.second)

-- the cost that the pair stands for
abbrev pub ranked_line : Pair → List ℕ
ranked_line p = pair_line (ranked_of p.first p.second)
