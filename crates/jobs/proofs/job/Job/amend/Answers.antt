use Rattle.std.proofs.Common.{◌<◌, length, set, refl, ap, ◌∙◌, arith, rules}
use Rattle.problems.specs.Outlines.{outline, amending, problem}
use Rattle.problems.proofs.Amendments.{amend_inside, amend_problem}
use Rattle.jobs.specs.declared.stage.Call.TheVariants.{Amend}
use Rattle.jobs.proofs.Passed.{own_rows}
use Rattle.jobs.proofs.job.Job.amend.Goals as goal

pub bounds-area-at : goal.bounds-area-at
bounds-area-at g c =
    let p = c.args.self.now.plain in
    let at = c.in_ok-at.ensures in
    omega (arith, amend_inside (outline p.shape) p.shape.laid c.args.function c.args.tuple.now at.0, c.in_ok-takes.ensures.1.1)

pub offset_bounds-area-at : goal.offset_bounds-area-at
offset_bounds-area-at g c =
    let p = c.args.self.now.plain in
    let at = c.in_ok-at.ensures in
    let h : c.in_ok-at.at < length c.args.area.now = omega (arith, amend_inside (outline p.shape) p.shape.laid c.args.function c.args.tuple.now at.0, c.in_ok-takes.ensures.1.1) in
    search rules

pub returns : goal.returns
returns g c =
    let p = c.args.self.now.plain in
    let o = outline p.shape in
    let at = c.in_ok-at.ensures in (
      own_rows p Amend (length c.args.area.now) refl c.in_ok-takes.ensures.0 (amending o c.args.function c.args.tuple.now) ∙ at.0,
      record {
        job_is = refl;
        cells_are = ap (λ k. set c.args.area.now k c.args.cost) at.1;
        problem_is = ap (λ k. problem o (set c.args.area.now k c.args.cost)) at.1 ∙ amend_problem o p.shape.laid c.args.area.now c.args.function c.args.tuple.now c.args.cost at.0;
      },
    )
