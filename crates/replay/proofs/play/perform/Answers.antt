use Rattle.std.proofs.Common.{rules}
use Rattle.replay.proofs.Links.{enter_link, amend_link, prepare_link, step_link, report_link}
use Rattle.replay.proofs.play.perform.Goals as goal

pub returns-in-Enter : goal.returns-in-Enter
returns-in-Enter g c =
    let a = c.in-Enter in
    rw a.is
    (enter_link g.C.Cost.structure g.S.FloorSource.rules c.args.job.now c.enter.new.self c.args.cells.now c.enter.new.area c.args.bytes.now a.area
    c.range-in-Enter.result.start c.range-in-Enter.result.end c.range-in-Enter.ensures (search rules)
    a.scope c.deref-in-Enter.result.now a.cost c.into-in-Enter.result c.enter.result c.deref-in-Enter.ensures.value c.into-in-Enter.ensures c.enter.ensures)

pub returns-in-Amend : goal.returns-in-Amend
returns-in-Amend g c =
    let a = c.in-Amend in
    rw a.is
    (amend_link g.C.Cost.structure g.S.FloorSource.rules c.args.job.now c.amend.new.self c.args.cells.now c.amend.new.area c.args.bytes.now a.area
    c.range-in-Amend.result.start c.range-in-Amend.result.end c.range-in-Amend.ensures (search rules)
    a.function a.tuple c.deref-in-Amend.result.now a.cost c.into-in-Amend.result c.amend.result c.deref-in-Amend.ensures.value c.into-in-Amend.ensures c.amend.ensures)

pub returns-in-Prepare : goal.returns-in-Prepare
returns-in-Prepare g c =
    let a = c.in-Prepare in
    rw a.is
    (prepare_link g.C.Cost.structure g.S.FloorSource.rules c.args.job.now c.prepare.new.self c.args.cells.now c.prepare.new.area c.args.bytes.now a.area
    c.range-in-Prepare.result.start c.range-in-Prepare.result.end c.range-in-Prepare.ensures (search rules)
    a.order c.deref-in-Prepare.result.now a.limit c.into-in-Prepare.result c.prepare.result c.deref-in-Prepare.ensures.value c.into-in-Prepare.ensures c.prepare.ensures)

pub returns-in-Step : goal.returns-in-Step
returns-in-Step g c =
    let a = c.in-Step in
    rw a.is
    (step_link g.C.Cost.structure g.S.FloorSource.rules c.args.job.now c.step.new.self c.args.cells.now c.step.new.area c.args.bytes.now a.area
    c.range-in-Step.result.start c.range-in-Step.result.end c.range-in-Step.ensures (search rules)
    a.budget c.into-in-Step.result c.step.result c.into-in-Step.ensures c.step.ensures)

pub returns-in-Ok : goal.returns-in-Ok
returns-in-Ok g c =
    let a = c.in-Report in
    rw a.is
    (report_link g.C.Cost.structure g.S.FloorSource.rules c.args.job.now c.args.cells.now c.args.bytes.now c.report.new.buffer a.buffer a.area
    c.range-place.result.start c.range-place.result.end c.range-in-Report.result.start c.range-in-Report.result.end c.range-place.ensures c.range-in-Report.ensures (search rules)
    c.in-Ok.report c.of.result c.of.ensures c.in-Ok.ensures)
