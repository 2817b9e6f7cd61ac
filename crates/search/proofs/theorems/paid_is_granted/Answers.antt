use Rattle.search.proofs.Results.{paid_is_granted}
use Rattle.search.proofs.theorems.paid_is_granted.Goals as goal

pub returns : goal.returns
returns g c = paid_is_granted _
