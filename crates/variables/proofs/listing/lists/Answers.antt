use Rattle.std.proofs.Common.{ℕ, eqb, rules, sym, ◌∙◌}
use Rattle.std.proofs.lemmas.Iterator.{YieldsList-from_slice}
use Rattle.std.proofs.lemmas.Iterator.Search.{any_from_yields_List}
use Rattle.variables.proofs.Listings.{has_any}
use Rattle.variables.proofs.listing.lists.Goals as goal

pub returns : goal.returns
returns c =
    any_from_yields_List (λ (u : ℕ). eqb u c.args.variable) _ _ _ c.any.ensures.ran (YieldsList-from_slice c.args.variables.now c.iter.ensures.rest) (λ x b q k. search rules)
    ∙ sym (has_any c.args.variables.now c.args.variable)
