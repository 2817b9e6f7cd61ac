use Rattle.search.proofs.Results.{steady_throughout}
use Rattle.search.proofs.theorems.steady_throughout.Goals as goal

pub returns : goal.returns
returns g c = steady_throughout _
