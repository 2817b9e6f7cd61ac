use Rattle.std.proofs.Common.{min, length, sym, refl, ap, ◌∙◌}
use Rattle.problems.specs.Outlines.{outline, entered}
use Rattle.variables.specs.Assignments.{cells}
use Rattle.variables.specs.Records.{scope_of}
use Rattle.variables.specs.Refusals.{first_of}
use Rattle.problems.specs.Rules.{enter_rows}
use Rattle.words.specs.Readers.{text_of, left_of}
use Rattle.wcsp.specs.Rules.{room_rule}
use Rattle.wcsp.proofs.Entries.{room_taken}
use Rattle.words.proofs.Rulings.{rule_taken}
use Rattle.wcsp.proofs.entry.usual.Goals as goal

pub returns-in-Ok-clause-read : goal.returns-in-Ok-clause-read
returns-in-Ok-clause-read c =
    let s = c.args.reader.now in
    let o = outline c.args.shape.now in
    let scope = scope_of c.args.scope.now in
    let room = c.args.room in
    let n = c.in_ok-number.number in
    let got = c.in-Ok.ensures in
    let rows = ap (λ vs. first_of (enter_rows o.sizes (length o.functions) o.used (min room 16384) vs)) (sym c.variables.ensures) ∙ got.0 in
    let taken = room_taken o.sizes scope (length o.functions) o.used room n.value c.requires.small rows in (
      n.value,
      rule_taken (length (text_of s)) (room_rule room o.used (cells o.sizes scope)) (left_of s) n (left_of c.number.new.self) c.in_ok-number.ensures.read taken,
      (refl, got.1.1 ∙ ap (entered o) c.variables.ensures),
    )
