use Rattle.std.proofs.Common.{ℕ, arith}
use Rattle.variables.proofs.Slots.{same_slots}
use Rattle.variables.proofs.plain.Sizes.none.Goals as goal

pub invariant_of-result : goal.invariant_of-result
invariant_of-result c = record {
  few = omega arith;
  small = λ v. omega (arith, same_slots {X = ℕ} 32 v 0);
  some = λ v h. omega arith;
  rest = λ v h. same_slots {X = ℕ} 32 v 0;
}
