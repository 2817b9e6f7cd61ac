use Rattle.std.proofs.Common.{arith}
use Rattle.replay.proofs.Copies.{copied}
use Rattle.replay.proofs.calls.Shown.of.Goals as goal

pub returns : goal.returns
returns c = copied 32 c.min-len.result c.args.buffer.now c.copy_from_slice.new.self _ (omega arith) c.copy_from_slice.ensures.after
