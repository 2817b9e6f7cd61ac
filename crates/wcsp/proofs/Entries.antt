-- Functions of a text, entered one by one.
use Rattle.std.proofs.Common.{◌≡◌, ℕ, ◌≤◌, min, List, [], ◌∷◌, length, replicate, None, refl, ◌∙◌, arith}
use Rattle.std.proofs.lemmas.List.{length-set, length-replicate}
use Rattle.std.proofs.lemmas.Bool.Decides.{nat_tests}
use Rattle.variables.specs.Assignments.{cells}
use Rattle.variables.specs.Refusals.{first_of}
use Rattle.problems.specs.Rules.{enter_rows}
use Rattle.wcsp.specs.Rules.{room_rule}
use Rattle.wcsp.specs.Layouts.{Listed, Entry}
use Rattle.wcsp.specs.Tables.{amend, amended, table_of}

-- a function that is entered has room
pub room_taken : (sizes scope : List ℕ) (count used room n : ℕ) → room ≤ 16384 → first_of (enter_rows sizes count used (min room 16384) scope) ≡ None → room_rule room used (cells sizes scope) n ≡ None
room_taken sizes scope count used room n small h =
    let whole : min room 16384 ≡ room = omega arith in
    grind (arith, nat_tests)

length_amended : (sizes scope table : List ℕ) (ls : List Listed) → length (amended sizes scope table ls) ≡ length table
length_amended sizes scope table [] = refl
length_amended sizes scope table (one ∷ ls) = length_amended sizes scope (amend sizes scope table one) ls ∙ length-set table _ _

pub length_table : (sizes : List ℕ) (e : Entry) → length (table_of sizes e) ≡ cells sizes e.scope
length_table sizes e = length_amended sizes e.scope (replicate (cells sizes e.scope) e.usual) e.listed ∙ length-replicate (cells sizes e.scope) e.usual
