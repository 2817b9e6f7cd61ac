use Rattle.std.proofs.Common.{List, [], ◌∷◌, ◌++◌, sym, ap₂, ◌∙◌}
use Rattle.problems.specs.Records.{placed_of, Placed}
use Rattle.problems.specs.Outlines.{outline}
use Rattle.problems.proofs.Placements.{mapped_nth}
use Rattle.buckets.proofs.Listing.{next_placed}
use Rattle.buckets.proofs.plain.Records.of.Goals as goal

pub loop-function-preserved : goal.loop-function-preserved
loop-function-preserved c =
    let fs = (outline c.args.shape.now).functions in
    let k = c.loop-function.function-index in
    let f = placed_of c.function-item.result in
    let there = mapped_nth placed_of c.functions-function-items.result.now fs c.functions-function-items.ensures.all k c.function-item.result c.loop-function-test.true c.function-item.is in
    c.push.ensures ∙ ap₂ (λ (l : List Placed) (g : Placed). l ++ g ∷ []) c.loop-function.invariant c.from.ensures ∙ sym (next_placed fs k f there)
