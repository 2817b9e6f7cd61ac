use Rattle.std.proofs.Common.{◌<◌, ◌≤◌, ◌++◌, length, Some, Option, sym, refl, ap, ◌∙◌, arith}
use Rattle.problems.specs.Outlines.{outline}
use Rattle.variables.specs.declared.plain.Sizes.{Sizes}
use Rattle.variables.specs.Assignments.{of}
use Rattle.variables.specs.Records.{sizes_of, values_of}
use Rattle.problems.specs.Records.{Placed, placed_of}
use Rattle.problems.proofs.Placements.{mapped_length, mapped_nth}
use Rattle.pages.specs.Records.{record_line, record_lines}
use Rattle.pages.proofs.Listings.{lines_more, lines_all}
use Rattle.pages.proofs.pricing.record_lines.Goals as goal

pub loop-k-preserved : goal.loop-k-preserved
loop-k-preserved c =
    let o = outline c.args.shape.now in
    let area = c.args.area.now in
    let a = of (values_of c.args.setting.now) in
    let k = c.loop-k.k in
    let before = c.loop-k.page.bytes.items in
    let items = c.functions-function-items.result.now in
    let f = placed_of c.function-item.result in
    let there = mapped_nth placed_of items o.functions c.functions-function-items.ensures.all k c.function-item.result c.loop-k-test.true c.function-item.is in
    let long : k < length o.functions = omega (arith, mapped_length placed_of items o.functions c.functions-function-items.ensures.all) in
    let put = c.in_ok-record_line.ensures
    ∙ ap (λ (z : Sizes). before ++ record_line (sizes_of z) area a k (Some f)) c.domains.ensures ∙ ap (λ (g : Option Placed). before ++ record_line o.sizes area a k g) (sym there) in
    lines_more (record_line o.sizes area a) (record_lines o.sizes area a) (λ j g gs. refl) (λ j. refl) before c.record_line.new.page.bytes.items _ k o.functions long put c.loop-k.invariant

pub returns : goal.returns
returns c =
    let o = outline c.args.shape.now in
    let a = of (values_of c.args.setting.now) in
    let end : length o.functions ≤ c.loop-k.k = omega (arith, c.loop-k-test.false, mapped_length placed_of c.functions-function-items.result.now o.functions c.functions-function-items.ensures.all) in
    lines_all (record_line o.sizes c.args.area.now a) (record_lines o.sizes c.args.area.now a) (λ j g gs. refl) (λ j. refl) c.loop-k.page.bytes.items _ c.loop-k.k o.functions end c.loop-k.invariant
