use Rattle.std.proofs.Common.{ℕ, List, [], ◌∷◌, ◌++◌, map, vec_items, sym, ap, ◌∙◌, ap₂, arith}
use Rattle.std.proofs.lemmas.List.{map_push, take_all}
use Rattle.problems.specs.Outlines.{outline}
use Rattle.problems.specs.Records.{placed_of}
use Rattle.problems.proofs.Placements.{mapped_length, mapped_nth}
use Rattle.orders.specs.Cliques.{scopes}
use Rattle.orders.proofs.Steps.{scopes_more}
use Rattle.orders.proofs.cliques.scopes.Goals as goal

pub loop-function-preserved : goal.loop-function-preserved
loop-function-preserved c =
    let fs = (outline c.args.shape.now).functions in
    let k = c.loop-function.function-index in
    let there = mapped_nth placed_of c.functions-function-items.result.now fs c.functions-function-items.ensures.all k c.function-item.result c.loop-function-test.true c.function-item.is in
    let put = ap (map vec_items) c.in_ok-push.ensures.items ∙ map_push vec_items (vec_items c.loop-function.all) c.in_ok-scope.field-0 in
    put ∙ ap₂ (λ (x : List (List ℕ)) (y : List ℕ). x ++ y ∷ []) c.loop-function.invariant c.in_ok-scope.ensures ∙ sym (scopes_more fs k (placed_of c.function-item.result) there)

pub returns : goal.returns
returns c =
    let fs = (outline c.args.shape.now).functions in
    c.loop-function.invariant ∙ ap scopes (take_all c.loop-function.function-index fs (omega (arith, c.loop-function-test.false, mapped_length placed_of c.functions-function-items.result.now fs c.functions-function-items.ensures.all)))
