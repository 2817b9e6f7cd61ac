use Rattle.std.proofs.Common.{ℕ, arith}
use Rattle.std.proofs.lemmas.List.{length-replicate}
use Rattle.variables.proofs.Slots.{same_slots}
use Rattle.buckets.proofs.plain.MiniBucket.new.Goals as goal

pub invariant_of-result : goal.invariant_of-result
invariant_of-result c = record { long = length-replicate {A = ℕ} 33 0; capped = λ p. omega (arith, same_slots {X = ℕ} 33 p 0) }
