use Rattle.search.proofs.Budgets.{runs_compose}
use Rattle.search.proofs.theorems.runs_compose.Goals as goal

pub returns : goal.returns
returns g c = runs_compose _
