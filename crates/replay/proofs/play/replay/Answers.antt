use Rattle.std.proofs.lemmas.Result.{err_from_is_err_and}
use Rattle.std.proofs.Common.{vec_items}
use Rattle.replay.specs.Chain.{Run}
use Rattle.replay.proofs.Runs.{chain_next, chain_all}
use Rattle.replay.proofs.Keeping.{promised}
use Rattle.replay.proofs.play.replay.Goals as goal

pub returns-in_err-push : goal.returns-in_err-push
returns-in_err-push g c =
    let p = err_from_is_err_and c.from_residual-in_err-push.result c.from_residual-in_err-push.ensures.1 in
    rw p.1 (record { ran = tt; truthful = tt })

pub loop-call-preserved : goal.loop-call-preserved
loop-call-preserved g c =
    chain_next g.C.Cost.structure g.S.FloorSource.rules _ _ _ c.args.calls.now c.loop-call.call-index _ _ _ _
    c.loop-call-test.true c.call-item.is c.in_ok-push.ensures.items c.loop-call.invariant c.perform-answer.ensures

pub returns : goal.returns
returns g c =
    let all = chain_all g.C.Cost.structure g.S.FloorSource.rules _ _ c.args.calls.now c.loop-call.call-index _ c.loop-call-test.false c.loop-call.invariant in
    let run : Run g.C.Cost.structure g.S.FloorSource.rules c.args.source c.args.cells.now c.loop-call.cells c.args.bytes.now c.loop-call.bytes c.args.calls.now (vec_items c.loop-call.answers) =
    record { first = c.new-job.result; last = c.loop-call.job; fresh = c.new-job.ensures; links = all } in
    record { ran = run; truthful = promised g.met.C.Cost.lawful g.met.S.FloorSource.sound run }
