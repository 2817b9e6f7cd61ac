use Rattle.std.proofs.Common.{◌<◌, ◌≤◌, ◌++◌, length, Option, sym, refl, ap, ◌∙◌, arith}
use Rattle.variables.specs.Records.{sizes_of}
use Rattle.problems.specs.Records.{Placed, placed_of}
use Rattle.problems.proofs.Placements.{mapped_length, mapped_nth}
use Rattle.buckets.specs.Sources.{messages}
use Rattle.pages.specs.Messages.{kept_line, kept_lines}
use Rattle.pages.proofs.Listings.{lines_more, lines_all}
use Rattle.pages.proofs.messages.kept_lines.Goals as goal

pub loop-k-preserved : goal.loop-k-preserved
loop-k-preserved c =
    let sizes = sizes_of c.args.sizes.now in
    let area = c.args.area.now in
    let k = c.loop-k.k in
    let before = c.loop-k.page.bytes.items in
    let items = c.messages-message-items.result.now in
    let ms = messages c.args.source.now in
    let there = mapped_nth placed_of items ms c.messages-message-items.ensures k c.message-item.result c.loop-k-test.true c.message-item.is in
    let long : k < length ms = omega (arith, mapped_length placed_of items ms c.messages-message-items.ensures) in
    let put = c.in_ok-kept_line.ensures ∙ ap (λ (g : Option Placed). before ++ kept_line sizes area k g) (sym there) in
    lines_more (kept_line sizes area) (kept_lines sizes area) (λ j g gs. refl) (λ j. refl) before c.kept_line.new.page.bytes.items _ k ms long put c.loop-k.invariant

pub returns : goal.returns
returns c =
    let sizes = sizes_of c.args.sizes.now in
    let area = c.args.area.now in
    let ms = messages c.args.source.now in
    let end : length ms ≤ c.loop-k.k = omega (arith, c.loop-k-test.false, mapped_length placed_of c.messages-message-items.result.now ms c.messages-message-items.ensures) in
    lines_all (kept_line sizes area) (kept_lines sizes area) (λ j g gs. refl) (λ j. refl) c.loop-k.page.bytes.items _ c.loop-k.k ms end c.loop-k.invariant
