use Rattle.std.proofs.Common.{length, arith}
use Rattle.std.proofs.lemmas.Result.{err_from_is_err_and}
use Rattle.std.proofs.lemmas.List.{take_all, length-take}
use Rattle.std.proofs.lemmas.Bool.Decides.{nat_tests}
use Rattle.variables.specs.Records.{order_of, sizes_of}
use Rattle.variables.proofs.Listings.{turn_refused, turn_taken, turn_same}
use Rattle.variables.proofs.Rows.{only_row, no_row}
use Rattle.variables.proofs.plain.Order.of.Goals as goal

pub returns-in_err-push : goal.returns-in_err-push
returns-in_err-push c =
    let p = err_from_is_err_and c.from_residual.result c.from_residual.ensures.1 in
    let l = c.loop-variable in
    let why = only_row _ _ _ c.in_err-push.ensures.0 in
    let bad = turn_refused 32 (length (sizes_of c.args.sizes.now)) c.args.variables.now (order_of l.order) l.variable-index (omega arith) l.invariant.1 l.invariant.2 why.0 in
    let few = length-take c.args.sizes.now.len c.args.sizes.now.sizes in
    rw (p.1, p.2, why.1) (grind (arith, nat_tests))

pub loop-variable-preserved : goal.loop-variable-preserved
loop-variable-preserved c =
    let l = c.loop-variable in
    let n = length (sizes_of c.args.sizes.now) in
    let why = c.in_ok-push.ensures in (
      l.invariant.0,
      turn_same 32 n c.args.variables.now (order_of l.order) l.variable-index (omega arith) l.invariant.1 l.invariant.2 (order_of c.push.new.self) why.1,
      turn_taken 32 n c.args.variables.now (order_of l.order) l.variable-index (omega arith) l.invariant.1 l.invariant.2 (no_row _ _ why.0),
    )

pub returns : goal.returns
returns c =
    let vs = c.args.variables.now in
    let whole = take_all c.loop-variable.variable-index vs (omega arith) in
    (grind arith, cc)
