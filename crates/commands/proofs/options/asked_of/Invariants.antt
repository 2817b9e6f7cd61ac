use Rattle.std.specs.Vec.Iter.{into_iter_len}
use Rattle.commands.proofs.options.asked_of.Given as goal

-- each round takes a word
abbrev pub decreases-loop-name : goal.decreases-loop-name
decreases-loop-name l = into_iter_len l.words
