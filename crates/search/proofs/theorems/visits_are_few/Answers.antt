use Rattle.search.proofs.Results.{visits_are_few}
use Rattle.search.proofs.theorems.visits_are_few.Goals as goal

pub returns : goal.returns
returns g c = visits_are_few _
