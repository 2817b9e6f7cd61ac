use Rattle.std.proofs.Common.{◌≡◌, ◌<◌, false, refl, ◌∙◌, sym, arith}
use Rattle.std.proofs.lemmas.List.{length-take}
use Rattle.variables.specs.Lists.{has}
use Rattle.variables.specs.Records.{order_of}
use Rattle.variables.proofs.Listings.{distinct_push}
use Rattle.variables.proofs.Pushes.{each_more}
use Rattle.variables.proofs.plain.Order.push.Goals as goal

pub invariant_of-self : goal.invariant_of-self
invariant_of-self c =
    let s = c.args.self.now in
    let v = c.args.variable in
    let new : has (order_of s) v ≡ false = rw (← c.variables.ensures) (sym c.lists.ensures ∙ c.if-lists.false) in
    let few : v < 32 = omega (arith, length-take c.args.sizes.now.len c.args.sizes.now.sizes) in
    record {
      within = rw c.in-Ok.ensures.added (each_more (order_of s) v few s.within);
      apart = rw (c.in-Ok.ensures.added, distinct_push (order_of s) v, s.apart, new) refl;
    }
