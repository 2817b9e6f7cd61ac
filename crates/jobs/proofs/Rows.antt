-- Rows that follow one another.
use Rattle.std.proofs.Common.{◌≡◌, List, [], ◌∷◌, ◌++◌, Some, None, refl, ◌∙◌, arith}
use Rattle.std.proofs.lemmas.Bool.{cond-false}
use Rattle.variables.specs.declared.refusal.Refusal.{Refusal}
use Rattle.variables.specs.Refusals.{Row, first_of}
use Rattle.variables.proofs.Rows.{rows_passed}

-- where none of the first holds, it is up to the others
pub rows_then : (xs ys : List Row) → first_of xs ≡ None → first_of (xs ++ ys) ≡ first_of ys
rows_then [] ys h = refl
rows_then (x ∷ xs) ys h = let both = rows_passed x.when x.refusal (first_of xs) h in cond-false x.when _ _ both.0 ∙ rows_then xs ys both.1

-- one of the first that holds is the first of all
pub rows_first : (xs ys : List Row) (e : Refusal) → first_of xs ≡ Some e → first_of (xs ++ ys) ≡ Some e
rows_first [] ys e h = grind arith
rows_first (x ∷ xs) ys e h = let ih = rows_first xs ys e in grind (arith, ih)
