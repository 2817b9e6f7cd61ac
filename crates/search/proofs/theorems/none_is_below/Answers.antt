use Rattle.search.proofs.Results.{none_is_below}
use Rattle.search.proofs.theorems.none_is_below.Goals as goal

pub returns : goal.returns
returns g c = none_is_below _
