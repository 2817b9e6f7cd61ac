use Rattle.search.proofs.Results.{best_is_found}
use Rattle.search.proofs.theorems.best_is_found.Goals as goal

pub returns : goal.returns
returns g c = best_is_found _
