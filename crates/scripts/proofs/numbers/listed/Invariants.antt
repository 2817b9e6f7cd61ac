use Rattle.std.proofs.Common.{length}
use Rattle.words.specs.Readers.{left_of}
use Rattle.scripts.proofs.numbers.listed.Given as goal

abbrev pub decreases-loop-next : goal.decreases-loop-next
decreases-loop-next l = length (left_of l.words)
