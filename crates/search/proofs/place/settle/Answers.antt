use Rattle.std.proofs.Common.{sym, ap, ◌∙◌, subst}
use Rattle.variables.specs.declared.plain.Order.{Order}
use Rattle.variables.specs.Records.{sizes_of, order_of, Shorter}
use Rattle.search.specs.Searches.{size_at}
use Rattle.search.proofs.Backing.{settles_again, settles_here}
use Rattle.search.proofs.place.settle.Goals as goal

pub loop-next-preserved : goal.loop-next-preserved
loop-next-preserved c =
    let o = c.args.shape.now.order in
    let s = c.args.shape.now.sizes in
    settles_again o s c.args.prefix.now c.args.first c.loop-next.prefix c.loop-next.next c.loop-next.invariant c.pop.new.self c.in-Some.value c.saturating_add-next.result
    (c.loop-next-test.true ∙ c.size_at.ensures ∙ ap (size_at (sizes_of s) (order_of o)) c.len.ensures) (subst (λ (o : Order). Shorter o c.loop-next.prefix c.pop.new.self c.in-Some.value) c.along.ensures c.in-Some.ensures.after) c.saturating_add-next.ensures

pub returns-after-loop-next : goal.returns-after-loop-next
returns-after-loop-next c =
    let o = c.args.shape.now.order in
    let s = c.args.shape.now.sizes in
    settles_here o s c.args.prefix.now c.args.first c.loop-next.prefix c.loop-next.next c.loop-next.invariant
    (λ e. c.loop-next-test.false (e ∙ sym (c.size_at.ensures ∙ ap (size_at (sizes_of s) (order_of o)) c.len.ensures)))
