use Rattle.std.proofs.Common.{subst}
use Rattle.variables.specs.declared.plain.Order.{Order}
use Rattle.variables.specs.Records.{Shorter}
use Rattle.search.proofs.Backing.{backs}
use Rattle.search.proofs.plain.Place.back.Goals as goal

pub returns-in-Some : goal.returns-in-Some
returns-in-Some c =
    backs c.args.shape.now.order c.args.shape.now.sizes c.args.self.now c.pop.new.self c.settle-self.new.prefix c.in-Some.value c.saturating_add.result c.settle-self.result
    (subst (λ (o : Order). Shorter o c.args.self.now.prefix c.pop.new.self c.in-Some.value) c.along.ensures c.in-Some.ensures.after) c.saturating_add.ensures c.settle-self.ensures
