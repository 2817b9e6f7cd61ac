use denote.Enum.Bare.{same_true, same_false}
use Rattle.std.proofs.Common.{◌≡◌, ◌≤◌, length, refl, sym, ◌∙◌, arith}
use Rattle.std.proofs.lemmas.List.{get_or_default}
use Rattle.search.specs.Places.{spot_of}
use Rattle.jobs.specs.contracts.stage.Stage.{the_type}
use Rattle.jobs.specs.declared.stage.Stage.TheVariants.{Ended}
use Rattle.jobs.specs.declared.stage.Call.TheVariants.{Step}
use Rattle.jobs.specs.Planning.{budget_rows}
use Rattle.jobs.proofs.Passed.{own_rows}
use Rattle.jobs.proofs.Goings.{still, over, formed_is}
use Rattle.jobs.proofs.Stepping.{steps_rest, steps}
use Rattle.jobs.proofs.job.Job.step.Goals as goal

pub returns-then-eq : goal.returns-then-eq
returns-then-eq g c =
    let p = c.args.self.now.plain in
    let passed = c.in_ok-takes.ensures.0 in
    let cells = length c.args.area.now in
    let ended : p.stage ≡ Ended = same_true the_type tt _ _ (sym c.if-eq.ensures) in (
      own_rows p Step cells refl passed (budget_rows c.args.budget) ∙ c.in_ok-takes_budget.ensures.0,
      steps_rest g.S.FloorSource.rules g.C.Cost.structure c.args.self.now c.args.area.now c.args.budget ended (over p Step cells refl refl passed ended) p.shown,
    )

pub returns : goal.returns
returns g c =
    let p = c.args.self.now.plain in
    let passed = c.in_ok-takes.ensures.0 in
    let cells = length c.args.area.now in
    let two : 2 ≤ cells = omega (arith, c.in_ok-takes.ensures.1) in
    let bar = c.index-area-1.is ∙ get_or_default c.args.area.now 1 c.index-area-1.result g.C.Cost.structure.neutral (omega arith) in (
      own_rows p Step cells refl passed (budget_rows c.args.budget) ∙ c.in_ok-takes_budget.ensures.0,
      steps g.S.FloorSource.rules g.C.Cost.structure c.args.self.now c.args.area.now c.args.budget _ (spot_of p.shape.order c.run-visits.new.self.place)
          c.index-area-1.result c.run-visits.new.self.bar c.run-visits.result c.used.result c.after-after.ensures.there refl c.run-visits.ensures.few (same_false the_type _ _ (sym c.if-eq.ensures))
          two c.used.ensures bar c.run-visits.ensures.runs (formed_is p Step cells refl refl passed c.args.area.now refl) (still p Step cells refl refl passed),
    )
