-- What each number of a text has to keep to, besides being a number.
use Rattle.std.specs.Prelude.{ℕ, ◌+◌, cond, not, ◌&&◌, List, Some, None, Option, nat_le, nat_lt}
use Rattle.variables.specs.declared.refusal.Refusal.TheVariants.{Variables, Size, Scope, Functions, Room, Tuple}
use Rattle.variables.specs.Lists.{has}
use Rattle.words.specs.declared.fault.Flaw.{Flaw}
use Rattle.words.specs.declared.fault.Flaw.TheVariants.{AboveMaximum, Rule}
use Rattle.words.specs.Ruled.{kept_or}

-- one to 32 variables
abbrev pub variables_rule : ℕ → Option Flaw
variables_rule n = kept_or (nat_le 1 n && nat_le n 32) Variables

-- one to 16 values, and then no more than the stated maximum
abbrev pub size_rule : ℕ → ℕ → Option Flaw
size_rule max size = cond (nat_le 1 size && nat_le size 16) (cond (nat_le size max) None (Some AboveMaximum)) (Some (Rule Size))

-- at most 64 functions
abbrev pub count_rule : ℕ → Option Flaw
count_rule count = kept_or (nat_le count 64) Functions

-- at most 5 variables to a function
abbrev pub arity_rule : ℕ → Option Flaw
arity_rule arity = kept_or (nat_le arity 5) Scope

-- one of the n variables, and not in the scope yet
abbrev pub variable_rule : ℕ → List ℕ → ℕ → Option Flaw
variable_rule n scope v = kept_or (nat_lt v n && not (has scope v)) Scope

-- whatever the number, the area holds the used cells and the table's
abbrev pub room_rule : ℕ → ℕ → ℕ → ℕ → Option Flaw
room_rule area used table-cells usual = kept_or (nat_le (used + table-cells) area) Room

-- a value of a domain
abbrev pub value_rule : ℕ → ℕ → Option Flaw
value_rule size value = kept_or (nat_lt value size) Tuple
