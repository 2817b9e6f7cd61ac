use Rattle.std.proofs.Common.{◌≡◌, length, replicate, refl, ap, ◌∙◌, rules}
use Rattle.problems.specs.Outlines.{outline, entering}
use Rattle.jobs.specs.declared.stage.Call.TheVariants.{Enter}
use Rattle.jobs.proofs.Passed.{own_rows}
use Rattle.jobs.proofs.Fills.{filled_alike}
use Rattle.jobs.proofs.Entries.{entered_is}
use Rattle.jobs.proofs.job.Job.enter.Goals as goal

pub returns : goal.returns
returns g c =
    let p = c.args.self.now.plain in
    let area = c.args.area.now in
    let scope = c.args.scope.now in
    let new = c.in_ok-number.ensures in
    let filled : c.fill_with.new.self ≡ replicate (length c.fill_with.new.self) c.args.cost =
    filled_alike _ (λ f. f.0.now) (λ f x f' h. search rules) _ c.fill_with.ensures.ran.0 c.fill_with.new.self c.fill_with.ensures.ran.1 in (
      own_rows p Enter (length area) refl c.in_ok-takes.ensures.0 (entering (outline p.shape) (length area) scope) ∙ new.0,
      entered_is c.args.self.now _ area c.fill_with.new.self scope c.args.cost c.in_ok-number.number c.used-start.result c.used-end.result (outline c.enter.new.self)
          new.0 new.1.0 new.1.1 c.fresh-self.ensures refl c.used-start.ensures c.used-end.ensures (filled ∙ ap (λ n. replicate n c.args.cost) c.fill_with.ensures.len),
    )
