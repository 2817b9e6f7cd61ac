use Rattle.std.proofs.Common.{append_assoc}
use Rattle.pages.proofs.Spelled.{numbers_spelled}
use Rattle.pages.proofs.lines.Page.message_line.Goals as goal

pub returns : goal.returns
returns c =
    let put = rw (numbers_spelled 0 c.args.scope.now, numbers_spelled 0 c.args.cells.now) at c.writeln.ensures in
    simp append_assoc put
