use Rattle.std.proofs.Common.{◌+◌, Err, sym, refl, ap, ◌∙◌}
use Rattle.words.specs.Readings.{next, rest_of}
use Rattle.words.specs.Runs.{blanks, run}
use Rattle.words.proofs.Firsts.{rest_whole, found, none, still}
use Rattle.words.proofs.plain.Reader.word.Goals as goal

pub returns-then-from-to : goal.returns-then-from-to
returns-then-from-to c =
    let text = c.args.self.now.text.now in
    let at = c.args.self.now.at in
    let from = at + c.blanks.result in
    let e = found text at from (from + c.run.result) (ap (λ n. at + n) (c.blanks.ensures.count ∙ ap blanks (rest_whole text at))) (ap (λ n. from + n) (c.run.ensures.count ∙ ap run (rest_whole text from))) c.if-from-to.true in
    record { kept = refl; moved = sym (ap rest_of e); read = sym (ap (next _) e) }

pub returns-else-from-to : goal.returns-else-from-to
returns-else-from-to c =
    let text = c.args.self.now.text.now in
    let at = c.args.self.now.at in
    let from = at + c.blanks.result in
    let f = ap (λ n. at + n) (c.blanks.ensures.count ∙ ap blanks (rest_whole text at)) in
    let t = ap (λ n. from + n) (c.run.ensures.count ∙ ap run (rest_whole text from)) in
    let e = none text at from (from + c.run.result) f t c.if-from-to.false in
    record { kept = refl; moved = still text at from (from + c.run.result) f t c.if-from-to.false ∙ sym (ap rest_of e); read = ap Err c.at.ensures ∙ sym (ap (next _) e) }
