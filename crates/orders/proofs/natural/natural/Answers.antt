use Rattle.std.proofs.Common.{◌≡◌, length, arith, refl, ap, ◌∙◌}
use Rattle.std.proofs.lemmas.Result.{IfOk-weaker}
use Rattle.std.proofs.lemmas.Iterator.{YieldsList-from_range, items_from_collect}
use Rattle.variables.specs.declared.plain.Sizes.{Sizes}
use Rattle.variables.specs.Records.{sizes_of}
use Rattle.variables.specs.Rules.{is_order}
use Rattle.problems.specs.Outlines.{outline}
use Rattle.orders.proofs.Eliminations.{numbered_order}
use Rattle.orders.proofs.natural.natural.Goals as goal

pub returns : goal.returns
returns c =
    let n = length (outline c.args.shape.now).sizes in
    let count : c.len-count.result ≡ n = c.len-count.ensures ∙ ap (λ (s : Sizes). length (sizes_of s)) c.sizes.ensures in
    let made = items_from_collect c.collect.result c.collect.ensures.ran (YieldsList-from_range 0 c.len-count.result n refl (omega arith)) in
    IfOk-weaker c.collect.result _ _ (λ v is. (is, ap (is_order n) is ∙ numbered_order n)) made
