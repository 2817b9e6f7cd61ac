use Rattle.replay.proofs.Examples.{promise_is_meant}
use Rattle.replay.proofs.theorems.promise_is_meant.Goals as goal

pub returns : goal.returns
returns g c = promise_is_meant g.row.C.Denot
