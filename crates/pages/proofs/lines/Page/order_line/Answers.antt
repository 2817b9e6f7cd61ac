use Rattle.pages.proofs.Spelled.{numbers_spelled}
use Rattle.pages.proofs.lines.Page.order_line.Goals as goal

pub returns : goal.returns
returns c = rw (numbers_spelled 0 c.args.order.now) at c.writeln.ensures
