use Rattle.std.proofs.Common.{set, ap, ◌∙◌, arith}
use Rattle.variables.specs.Records.{sizes_of, scope_of, values_of}
use Rattle.words.specs.Readers.{text_of, left_of}
use Rattle.wcsp.specs.Passes.{by_pass}
use Rattle.wcsp.proofs.Amends.{tuple_cell, cell_within, listing_read}
use Rattle.wcsp.proofs.listing.listing.Goals as goal

pub put-requires : goal.put-requires
put-requires c =
    let sizes = sizes_of c.args.sizes.now in
    let scope = scope_of c.args.scope.now in
    let read = c.in_ok-setting.ensures.read in
    let values = values_of c.in_ok-setting.setting in
    omega (arith, cell_within sizes scope read.0 values c.cell-cell.result c.cell-cell.ensures.place read.2.1 read.2.0, c.requires)

pub returns-clause-read : goal.returns-clause-read
returns-clause-read c =
    let sizes = sizes_of c.args.sizes.now in
    let scope = scope_of c.args.scope.now in
    let table = c.args.table.now in
    let read = c.in_ok-setting.ensures.read in
    let values = values_of c.in_ok-setting.setting in
    let cost = c.in_ok-cost.cost in
    let cell = tuple_cell sizes scope read.0 values c.cell-cell.result c.cell-cell.ensures.place read.2.1 in (
      _,
      listing_read (text_of c.args.reader.now) (text_of c.tuple.new.reader) sizes scope read.0 cost (left_of c.args.reader.now) (left_of c.tuple.new.reader) (left_of c.figure.new.self) c.tuple.ensures.kept read.1 c.in_ok-cost.ensures.read,
      c.put.ensures ∙ ap (λ k. by_pass c.args.pass table (set table k cost)) cell,
    )
