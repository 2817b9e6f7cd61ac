-- Rules of the job that a number keeps or breaks.
use Rattle.std.proofs.Common.{◌≡◌, ℕ, ◌<◌, true, false, not, List, [], ◌∷◌, ◌++◌, length, None, ap, ◌∙◌, arith}
use Rattle.std.proofs.lemmas.Bool.Decides.{nat_tests}
use Rattle.variables.specs.Rules.{proper, barred}
use Rattle.variables.proofs.Listings.{chosen_push}
use Rattle.wcsp.specs.Rules.{variable_rule}

-- a scope with one variable more
module _ (n : ℕ) (scope : List ℕ) (v : ℕ) (few : length scope < 5) where
  pub still_proper : proper n scope ≡ true → variable_rule n scope v ≡ None → proper n (scope ++ v ∷ []) ≡ true
  still_proper p h =
      let good : barred 5 n scope v ≡ false = grind (arith, nat_tests) in
      chosen_push 5 n scope v p ∙ ap not good
