use Rattle.std.proofs.Common.{◌≡◌, None, ◌∙◌, arith}
use Rattle.std.proofs.lemmas.Bool.Decides.{nat_tests}
use Rattle.variables.specs.Refusals.{first_of}
use Rattle.jobs.specs.Stages.{stage_rows}
use Rattle.jobs.specs.Calls.{length_rows}
use Rattle.jobs.proofs.Rows.{rows_then}
use Rattle.jobs.proofs.Passed.{inside}
use Rattle.jobs.proofs.job.Plain.takes.Goals as goal

pub returns : goal.returns
returns c =
    let p = c.args.self.now in
    let same : first_of (length_rows p.noted c.args.cells) ≡ None = let e = c.if-cells-self.false in grind (arith, nat_tests) in
    let passed = rows_then (stage_rows p.stage c.args.call) (length_rows p.noted c.args.cells) c.in_ok-takes.ensures.0 ∙ same in
    (passed, inside p c.args.call c.args.cells c.requires.later passed)
