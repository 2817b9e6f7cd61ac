use Rattle.std.proofs.Common.{set, ◌∙◌, ap₂}
use Rattle.jobs.proofs.Reporting.{listed_more}
use Rattle.jobs.proofs.report.list.Goals as goal

pub loop-variable-preserved : goal.loop-variable-preserved
loop-variable-preserved c =
    ap₂ (λ cells x. set cells c.loop-variable.variable x) c.loop-variable.invariant c.value.ensures ∙ listed_more c.args.setting.now c.args.buffer.now c.loop-variable.variable c.loop-variable-test.true
