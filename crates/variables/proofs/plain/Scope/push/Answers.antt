use Rattle.std.proofs.Common.{◌≡◌, ◌+◌, ◌<◌, true, false, take, set, arith}
use Rattle.std.proofs.lemmas.List.{take_more_set, length-take}
use Rattle.variables.specs.Lists.{has, distinct}
use Rattle.variables.specs.Records.{scope_of}
use Rattle.variables.proofs.Slots.{each_after}
use Rattle.variables.proofs.Listings.{distinct_push}
use Rattle.variables.proofs.plain.Scope.push.Goals as goal

pub invariant_of-self : goal.invariant_of-self
invariant_of-self c =
    let s = c.args.self.now in
    let v = c.args.variable in
    let more = take_more_set s.variables s.len v (omega arith) in
    let new : has (scope_of s) v ≡ false = grind arith in
    let few : v < 32 = omega (arith, length-take c.args.sizes.now.len c.args.sizes.now.sizes) in
    let apart : distinct (take (s.len + 1) (set s.variables s.len v)) ≡ true = rw (more, distinct_push (scope_of s) v, s.apart, new) in
    record { few = omega arith; within = each_after (λ x. x < 32) s.variables s.len v 0 few s.within; apart = apart }
