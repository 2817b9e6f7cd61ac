use Rattle.std.proofs.Common.{ℕ, ◌&&◌, vec_items, Vec, rules, ◌∙◌}
use Rattle.std.proofs.lemmas.Iterator.{YieldsList-from_slice}
use Rattle.std.proofs.lemmas.Iterator.Search.{any_from_yields_List}
use Rattle.std.specs.declared.alloc.Global.{Global}
use Rattle.variables.specs.Lists.{has}
use Rattle.orders.proofs.Steps.{joined_mapped}
use Rattle.orders.proofs.elimination.Elimination.joined.Goals as goal

pub returns : goal.returns
returns c =
    any_from_yields_List (λ (v : Vec ℕ Global). has (vec_items v) c.args.a && has (vec_items v) c.args.b) _ _ _ c.any.ensures.ran
    (YieldsList-from_slice c.args.self.now.cliques.items cc) (λ x b q k. search rules)
    ∙ joined_mapped c.args.self.now.cliques.items c.args.a c.args.b
