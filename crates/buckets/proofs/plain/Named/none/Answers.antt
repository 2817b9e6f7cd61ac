use Rattle.std.proofs.Common.{Bool, false}
use Rattle.variables.proofs.Slots.{same_slots}
use Rattle.buckets.proofs.plain.Named.none.Goals as goal

pub returns : goal.returns
returns c = λ v. same_slots {X = Bool} 32 v false
