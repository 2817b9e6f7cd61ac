use Rattle.std.proofs.Common.{length}
use Rattle.orders.proofs.elimination.Elimination.+gaps.Given as goal

abbrev pub decreases-gaps : goal.decreases-gaps
decreases-gaps l = length l.variables.now
