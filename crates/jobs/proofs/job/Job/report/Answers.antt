use Rattle.std.proofs.Common.{◌≡◌, ◌≤◌, map, length, take, refl, ap, ◌∙◌, arith}
use Rattle.std.proofs.lemmas.List.{get_or_default}
use Rattle.variables.specs.Assignments.{of}
use Rattle.variables.specs.Records.{prefix_of, order_of, values_of}
use Rattle.problems.specs.Outlines.{outline}
use Rattle.jobs.specs.declared.stage.Call.TheVariants.{Report}
use Rattle.jobs.specs.Planning.{buffer_rows, listing}
use Rattle.jobs.proofs.Passed.{own_rows}
use Rattle.jobs.proofs.Goings.{formed_is}
use Rattle.jobs.proofs.Reporting.{reports_is, buffer_long}
use Rattle.jobs.proofs.job.Job.report.Goals as goal
use Rattle.jobs.proofs.job.Job.report.Goals.{in-Some, in_default}

pub returns : goal.returns
returns g c =
    let p = c.args.self.now.plain in
    let passed = c.in_ok-takes.ensures.0 in
    let sized = c.in_ok-takes_buffer.ensures.0 in
    let cells = length c.args.area.now in
    let two : 2 ≤ cells = omega (arith, c.in_ok-takes.ensures.1) in
    let listed : c.match-incumbent.buffer ≡ listing c.incumbent-incumbent.result c.args.buffer.now =
    elim c.match-incumbent.branch [ in-Some w ↦ rw (w.in-Some.is, w.buffer-is) w.list.ensures | in_default w ↦ rw w.in_default.is w.buffer-is ] in
    let bar = c.index-area-1.is ∙ get_or_default c.args.area.now 1 c.index-area-1.result g.C.Cost.structure.neutral (omega arith) in
    let empty = ap (λ n. map (of (values_of c.empty-empty.result.setting)) (take n (order_of p.shape.order))) c.empty-empty.ensures.len in (
      own_rows p Report cells refl passed (buffer_rows (length (outline p.shape).sizes) (length c.args.buffer.now)) ∙ sized,
      reports_is g.S.FloorSource.rules g.C.Cost.structure c.args.self.now c.args.area.now c.args.buffer.now c.match-incumbent.buffer
          c.verdict.result c.index-area-1.result c.floor-bottom.result c.incumbent-incumbent.result c.used.result (prefix_of p.shape.order c.empty-empty.result)
          (formed_is p Report cells refl refl passed c.args.area.now refl) (buffer_long _ _ sized) (c.incumbent-incumbent.ensures p.shape.order)
          listed c.verdict.ensures bar c.used.ensures empty (c.floor-bottom.ensures.told (omega (arith, c.empty-empty.ensures.len))),
    )
