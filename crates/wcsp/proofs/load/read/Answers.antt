use Rattle.std.proofs.Common.{length, ap, ◌∙◌}
use Rattle.problems.specs.Outlines.{Outline, outline}
use Rattle.variables.specs.Records.{sizes_of}
use Rattle.wcsp.specs.Passes.{by_pass}
use Rattle.wcsp.specs.Tables.{laid}
use Rattle.wcsp.specs.Described.{entered_all, tables}
use Rattle.wcsp.proofs.Documents.{read_document}
use Rattle.wcsp.proofs.load.read.Goals as goal

pub returns-clause-read : goal.returns-clause-read
returns-clause-read c =
    let s = c.new-reader.result in
    let s₁ = c.read_heading.new.reader in
    let s₂ = c.sizes.new.reader in
    let s₃ = c.entries.new.reader in
    let area = c.args.area.now in
    let pass = c.args.pass in
    let h = c.in_ok-heading.ensures.read in
    let z = c.in_ok-sizes.ensures.read in
    let e = c.in_ok-entries.ensures.read in
    let sizes = sizes_of c.in_ok-sizes.sizes in
    let o = outline c.sized-shape.result in
    let opens = c.sized-shape.ensures in (
      _,
      read_document c.args.text.now (length area) s s₁ s₂ s₃ c.in_ok-heading.heading sizes o (outline c.entries.new.shape) c.new-reader.ensures.whole c.new-reader.ensures.start c.read_heading.ensures.kept c.sizes.ensures.kept
          h.0 h.1 h.2 z opens e.0 e.1 c.in_ok-end.ensures,
      (
        h.2.upper,
        e.2.0 ∙ ap (λ o. entered_all o e.0) opens,
        e.2.1 ∙ ap (λ (o : Outline). by_pass pass area (laid area o.used (tables o.sizes e.0))) opens,
      ),
    )
