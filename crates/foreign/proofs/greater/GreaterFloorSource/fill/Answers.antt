use Rattle.std.proofs.Common.{◌+◌, ◌≤◌, ap, arith}
use Rattle.problems.specs.Outlines.{outline}
use Rattle.problems.proofs.Tables.{laid_end}
use Rattle.foreign.specs.Greaters.{greater_fills}
use Rattle.foreign.proofs.greater.GreaterFloorSource.fill.Goals as goal

pub returns : goal.returns
returns g c =
    greater_fills g.C.Cost.structure g.A.FloorSource.rules g.B.FloorSource.rules g.met.A.FloorSource.sound g.met.B.FloorSource.sound (outline c.args.shape.now) c.args.shape.now.laid
    c.args.self.now (record { first = c.fill.new.self; second = c.fill-2.new.self }) c.args.area.now c.fill.new.area c.fill-2.new.area c.args.at
    (c.args.at + c.room.result) (ap (λ n. c.args.at + n) c.room.ensures) c.requires.behind (omega (arith, c.requires.there, c.requires.behind, laid_end (outline c.args.shape.now).sizes 2 (outline c.args.shape.now).used (outline c.args.shape.now).functions c.args.shape.now.laid)) c.fill.ensures c.fill-2.ensures

-- the tables begin behind cell 2, so the cells of both fit numbers of 64 bits
pub fill-requires-2-clause-there : goal.fill-requires-2-clause-there
fill-requires-2-clause-there g c =
    let o = outline c.args.shape.now in
    let after : 2 ≤ o.used = laid_end o.sizes 2 o.used o.functions c.args.shape.now.laid in
    omega (arith, c.room.ensures, c.fill.ensures.long)
