use Rattle.std.proofs.Common.{◌≡◌, ◌-◌, length, vec_items, ap, append-nil, arith}
use Rattle.variables.specs.declared.plain.Sizes.{Sizes}
use Rattle.variables.specs.Records.{sizes_of}
use Rattle.problems.specs.Outlines.{outline}
use Rattle.orders.proofs.Eliminations.{eliminated_turn}
use Rattle.orders.proofs.min_fill.eliminations.Goals as goal

pub loop-init : goal.loop-init
loop-init c = let e : length (outline c.args.shape.now).sizes - 0 ≡ length (outline c.args.shape.now).sizes = omega arith in grind arith

pub loop-preserved : goal.loop-preserved
loop-preserved c =
    let n = length (outline c.args.shape.now).sizes in
    let sizes : length (sizes_of c.sizes.result) ≡ n = ap (λ (s : Sizes). length (sizes_of s)) c.sizes.ensures in
    eliminated_turn n c.loop.counter c.in_ok-v.v _ _ _ _ (vec_items c.loop.gone) _ _ (omega (arith, sizes, c.len-end.ensures)) c.in_ok-v.ensures.next c.in_ok-v.ensures.joins
    c.in_ok-v.ensures.rest c.in_ok-push.ensures.items c.loop.invariant

pub returns : goal.returns
returns c =
    let n = length (outline c.args.shape.now).sizes in
    let sizes : length (sizes_of c.sizes.result) ≡ n = ap (λ (s : Sizes). length (sizes_of s)) c.sizes.ensures in
    let e : n - c.loop.counter ≡ 0 = omega (arith, sizes, c.len-end.ensures) in
    grind (arith, append-nil (vec_items c.loop.gone))
