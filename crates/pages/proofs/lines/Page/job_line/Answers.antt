use Rattle.std.proofs.Common.{codes}
use Rattle.pages.proofs.Parts.{three_parts}
use Rattle.pages.proofs.lines.Page.job_line.Goals as goal

pub returns : goal.returns
returns c =
    let n = c.len-variables.ensures in
    let m = c.function_count-functions.ensures.count in
    let s = c.sizes.ensures in
    let u = c.used-used.ensures in
    three_parts c.writeln.result c.args.self.now.bytes.items c.write.new.self.bytes.items _ _ (codes "job ") c.args.name.now _ _
    c.in_ok-write.ensures c.in_ok-extend_from_slice.ensures.items c.writeln.ensures (cc)
