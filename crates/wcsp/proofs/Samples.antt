-- Short texts, read by the definitions themselves.
use Rattle.std.proofs.Common.{◌≡◌, ℕ, List, [], ◌∷◌, length, Some, None, Ok, codes, Result, refl}
use Rattle.variables.specs.declared.refusal.Refusal.TheVariants.{Variables, Size, Scope, Functions, Room, Tuple}
use Rattle.words.specs.declared.fault.Fault.{Fault}
use Rattle.words.specs.declared.fault.Flaw.TheVariants.{Ended, NoNumber, AboveMaximum, Rule, LeftOver}
use Rattle.words.specs.Words.{words}
use Rattle.words.specs.Numbers.{number}
use Rattle.words.specs.Readings.{fault}
use Rattle.wcsp.specs.Layouts.{Document, document}

-- a text of an area of so many cells
abbrev reads : ℕ → List ℕ → Result Document Fault
reads area text = document (length text) area (words text)

two_words : words (codes " ab  c") ≡ record { at = 1; bytes = codes "ab" } ∷ record { at = 5; bytes = codes "c" } ∷ []
two_words = refl

largest : number (codes "4294967295") ≡ Some 4294967295
largest = refl

too_large : number (codes "4294967296") ≡ None
too_large = refl

-- leading zeros count
eleven : number (codes "00000000001") ≡ None
eleven = refl

small : reads 100 (codes "t 2 3 1 9 2 3 2 1 0 5 1 2 0 7") ≡ Ok (record {
  name = codes "t";
  upper = 9;
  sizes = 2 ∷ 3 ∷ [];
  entries = record { scope = 1 ∷ 0 ∷ []; usual = 5; listed = record { tuple = 2 ∷ 0 ∷ []; cost = 7 } ∷ [] } ∷ [];
})
small = refl

-- six cells do not fit in seven, with two used before
crowded : reads 7 (codes "t 2 3 1 9 2 3 2 1 0 5 1 2 0 7") ≡ fault (Rule Room) 20
crowded = refl

ended : reads 100 (codes "t 2 3 1 9 2 3 2 1 0 5 1 2 0 ") ≡ fault Ended 28
ended = refl

left_over : reads 100 (codes "t 1 1 0 9 1 x y") ≡ fault LeftOver 12
left_over = refl

no_number : reads 100 (codes "t 1 1 -0 9 1") ≡ fault NoNumber 6
no_number = refl

above : reads 100 (codes "t 1 1 0 9 2") ≡ fault AboveMaximum 10
above = refl

twice : reads 100 (codes "t 2 3 1 9 2 3 2 1 1 5 0") ≡ fault (Rule Scope) 18
twice = refl

out_of_domain : reads 100 (codes "t 2 3 1 9 2 3 2 1 0 5 1 2 2 7") ≡ fault (Rule Tuple) 26
out_of_domain = refl

-- the size rule is tried before the stated maximum
too_many_values : reads 100 (codes "t 1 3 0 9 17") ≡ fault (Rule Size) 10
too_many_values = refl

too_many_variables : reads 100 (codes "t 33 3 0 9") ≡ fault (Rule Variables) 2
too_many_variables = refl

too_many_functions : reads 100 (codes "t 1 3 65 9") ≡ fault (Rule Functions) 6
too_many_functions = refl
