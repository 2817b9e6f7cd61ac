use Rattle.search.proofs.Results.{incumbent_is_real}
use Rattle.search.proofs.theorems.incumbent_is_real.Goals as goal

pub returns : goal.returns
returns g c = incumbent_is_real _
