use Rattle.std.proofs.Common.{◌≡◌, ◌∷◌, ◌+◌, get_or, drop, sym, ◌∙◌, ap, arith}
use Rattle.std.proofs.lemmas.List.{at_drop_more}
use Rattle.pages.proofs.Spelled.{one_more}
use Rattle.pages.proofs.lines.SpacedDisplay.fmt.Goals as goal

pub loop-k-preserved : goal.loop-k-preserved
loop-k-preserved g c plain whole is =
    let before = c.loop-k.invariant plain whole is in
    let list = c.args.self.now.0.now in
    let k = c.loop-k.k in
    let n = c.n-item.result in
    let here : get_or list k n ≡ n = sym c.n-item.is in
    let rest = at_drop_more (λ l. l) list k n (omega arith) ∙ ap (λ m. m ∷ drop (k + 1) list) here in
    one_more g.W.Write.write_str_gives _ c.loop-k.f c.write.new.self whole before.0 g.T.Display.output k n _ _ c.gap_before-gap.result.now
    before.1 before.2 rest c.gap_before-gap.ensures c.in_ok-write.ensures.writes
