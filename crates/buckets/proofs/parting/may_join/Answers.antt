use Rattle.std.proofs.Common.{◌≡◌, false, get_or, List, [], sym, ap, ◌∙◌}
use Rattle.std.proofs.lemmas.List.{nil_from_length}
use Rattle.buckets.specs.Joining.{joins}
use Rattle.variables.specs.Records.{order_of, scope_of}
use Rattle.problems.specs.Records.{Placed}
use Rattle.buckets.specs.Listed.{listed}
use Rattle.buckets.proofs.Lows.{order_low}
use Rattle.buckets.proofs.Listing.{counted}
use Rattle.buckets.proofs.Marking.{joins_counted}
use Rattle.buckets.proofs.parting.may_join.Goals as goal

pub returns : goal.returns
returns c =
    let o = c.args.order.now in
    joins_counted (order_of o) (order_low o) c.args.width (listed c.args.members.now) (scope_of c.args.scope.now) c.args.named.now.named c.add.new.self.named c.count.result
    (λ e. c.if-len-eq0.false (c.len.ensures.count ∙ e)) c.requires c.add.ensures (c.count.ensures ∙ counted (λ v. get_or c.add.new.self.named v false) (order_of o))

pub returns-then-len-eq0 : goal.returns-then-len-eq0
returns-then-len-eq0 c =
    let s = c.args.members.now in
    let none : listed s ≡ [] = nil_from_length (listed s) (sym c.len.ensures.count ∙ c.if-len-eq0.true) in
    ap (λ (l : List Placed). joins (order_of c.args.order.now) c.args.width l (scope_of c.args.scope.now)) (sym none)
