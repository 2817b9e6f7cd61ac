use Rattle.std.proofs.Common.{◌≡◌, reverse, length, vec_items, ap, ◌∙◌}
use Rattle.problems.specs.Outlines.{outline}
use Rattle.variables.specs.Rules.{is_order}
use Rattle.orders.specs.Orders.{min_fill}
use Rattle.orders.proofs.Eliminations.{min_fill_order}
use Rattle.orders.proofs.min_fill.min_fill.Goals as goal

pub returns : goal.returns
returns c =
    let o = outline c.args.shape.now in
    let is : vec_items c.reverse.new.self ≡ min_fill o = c.reverse.ensures.items ∙ ap reverse c.in_ok-order.ensures in
    (is, ap (is_order (length o.sizes)) is ∙ min_fill_order o)
