-- Listed tuples, written into a table.
use Rattle.std.proofs.Common.{◌≡◌, ℕ, ◌<◌, true, List, [], ◌∷◌, ◌++◌, length, Ok, sym, refl, ap, ◌∙◌, arith}
use Rattle.variables.specs.Assignments.{of, along, cells, cell_from}
use Rattle.variables.specs.Rules.{fits}
use Rattle.problems.proofs.Bounds.{cell_below, fits_ranged}
use Rattle.variables.proofs.Tuples.{same_cell}
use Rattle.wcsp.specs.declared.tables.Pass.{Pass}
use Rattle.wcsp.specs.declared.tables.Pass.TheVariants.{Checking, Writing}
use Rattle.words.specs.Words.{Word}
use Rattle.words.specs.Ruled.{any, number_by}
use Rattle.wcsp.specs.Layouts.{Listed, tuple_from, listing}
use Rattle.wcsp.specs.Passes.{by_pass}
use Rattle.wcsp.specs.Tables.{amend, amended}

-- a setting that gives a tuple's values has the tuple's cell, and that is one of the table's
module _ (sizes scope tuple values : List ℕ) (cell : ℕ) (place : cell ≡ cell_from sizes 0 scope (of values)) (same : (v : ℕ) → of values v ≡ along scope tuple v) where
  pub tuple_cell : cell ≡ cell_from sizes 0 scope (along scope tuple)
  tuple_cell = place ∙ same_cell sizes 0 scope (of values) (along scope tuple) same

  pub cell_within : fits sizes scope tuple ≡ true → cell < cells sizes scope
  cell_within fit = omega (arith, tuple_cell, cell_below sizes scope (along scope tuple) (fits_ranged sizes scope tuple fit))

pub listing_read : (text text₁ sizes scope tuple : List ℕ) (cost : ℕ) (words ws₁ ws₂ : List Word) → text₁ ≡ text
    → tuple_from (length text) sizes scope [] words ≡ Ok (tuple, ws₁) → Ok (cost, ws₂) ≡ number_by (length text₁) any ws₁
    → listing (length text) sizes scope words ≡ Ok (record { tuple = tuple; cost = cost }, ws₂)
listing_read text text₁ sizes scope tuple cost words ws₁ ws₂ k t n = cc

pub amended_push : (sizes scope table : List ℕ) (ls : List Listed) (one : Listed) → amended sizes scope table (ls ++ one ∷ []) ≡ amend sizes scope (amended sizes scope table ls) one
amended_push sizes scope table [] one = refl
amended_push sizes scope table (l ∷ ls) one = amended_push sizes scope (amend sizes scope table l) ls one

-- no change yet
pub pass_none : {A : Type 0} (pass : Pass) (old new : A) → new ≡ old → old ≡ by_pass pass old new
pass_none Checking old new h = refl
pass_none Writing old new h = sym h

-- one more change in the same pass
pub pass_more : {A : Type 0} (pass : Pass) (old was now new : A) (change : A → A) → was ≡ by_pass pass old new → now ≡ by_pass pass was (change was) → now ≡ by_pass pass old (change new)
pass_more Checking old was now new change h k = k ∙ h
pass_more Writing old was now new change h k = k ∙ ap change h
