use Rattle.std.proofs.Common.{ℕ}
use Rattle.variables.proofs.Slots.{same_slots}
use Rattle.variables.proofs.plain.Setting.empty.Goals as goal

pub returns : goal.returns
returns c = λ v. same_slots {X = ℕ} 32 v 0
