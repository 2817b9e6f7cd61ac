use Rattle.std.proofs.Common.{◌++◌, length, sym, refl, ap, ◌∙◌, arith}
use Rattle.std.proofs.lemmas.Result.{err_from_is_err_and}
use Rattle.std.proofs.lemmas.List.{length-set}
use Rattle.variables.specs.Refusals.{first_of}
use Rattle.variables.specs.Rules.{order_rows}
use Rattle.problems.specs.Outlines.{Outline, outline, ordered}
use Rattle.jobs.specs.declared.stage.Call.TheVariants.{Prepare}
use Rattle.jobs.specs.Planning.{source_rows}
use Rattle.jobs.proofs.Rows.{rows_then, rows_first}
use Rattle.jobs.proofs.Passed.{some, noted_is, own_rows}
use Rattle.jobs.proofs.Preparing.{started_sound, suited, roomy, prepared_is}
use Rattle.jobs.proofs.job.Job.prepare.Goals as goal

pub returns-in_err-arrange : goal.returns-in_err-arrange
returns-in_err-arrange g c =
    let p = c.args.self.now.plain in
    let o = ordered (outline p.shape) c.args.order.now in
    let cells = length c.args.area.now in
    let rows = order_rows (length (outline p.shape).sizes) c.args.order.now in
    let rest = source_rows g.S.FloorSource.rules c.args.self.now.source o cells in
    let e = err_from_is_err_and c.from_residual-in_err-arrange.result c.from_residual-in_err-arrange.ensures.1 in
    rw (e.1, e.2) (own_rows p Prepare cells refl c.in_ok-takes.ensures.0 (rows ++ rest) ∙ rows_first rows rest _ c.in_err-arrange.ensures.0, (refl, refl))

pub fill-requires : goal.fill-requires
fill-requires g c =
    let cells = length c.args.area.now in
    let rows = c.in_ok-takes_source.ensures.0 in
    let R = g.S.FloorSource.rules in
    let s = c.args.self.now.source in
    let o = outline c.arrange.new.self in
    record {
      suited = suited R s o cells rows;
      behind = omega (arith, c.used.ensures);
      there = simp length-set (omega (arith, roomy R s o cells rows, c.used.ensures));
    }

pub fresh-self-requires : goal.fresh-self-requires
fresh-self-requires g c =
    let p = c.args.self.now.plain in
    let cells = length c.args.area.now in
    let passed = c.in_ok-takes.ensures in
    let made = c.in_ok-arrange.ensures in
    record {
      kept = started_sound p.shape c.arrange.new.self c.args.order.now made.1 made.0 (some p Prepare cells refl passed.0) p.noted (omega (arith, passed.1.1, noted_is p Prepare cells refl passed.0));
      few = p.few;
    }

pub returns : goal.returns
returns g c =
    let p = c.args.self.now.plain in
    let R = g.S.FloorSource.rules in
    let s = c.args.self.now.source in
    let cells = length c.args.area.now in
    let rows = order_rows (length (outline p.shape).sizes) c.args.order.now in
    let rest = source_rows R s (ordered (outline p.shape) c.args.order.now) cells in
    let made = c.in_ok-arrange.ensures in (
      own_rows p Prepare cells refl c.in_ok-takes.ensures.0 (rows ++ rest) ∙ rows_then rows rest made.0
          ∙ ap (λ (o : Outline). first_of (source_rows R s o cells)) (sym made.1) ∙ c.in_ok-takes_source.ensures.0,
      prepared_is R c.args.self.now _ c.args.area.now c.fill.new.area c.args.order.now c.args.limit c.used.result (outline c.arrange.new.self) made.1 c.fresh-self.ensures c.used.ensures c.fill.ensures,
    )
