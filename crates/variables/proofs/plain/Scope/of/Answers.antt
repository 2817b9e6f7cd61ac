use Rattle.std.proofs.Common.{length, refl, arith}
use Rattle.std.proofs.lemmas.Result.{err_from_is_err_and}
use Rattle.std.proofs.lemmas.List.{take_all}
use Rattle.variables.specs.Records.{scope_of, sizes_of}
use Rattle.variables.proofs.Listings.{turn_refused, turn_taken, turn_same}
use Rattle.variables.proofs.Rows.{only_row, no_row}
use Rattle.variables.proofs.plain.Scope.of.Goals as goal

pub returns-in_err-push : goal.returns-in_err-push
returns-in_err-push c =
    let p = err_from_is_err_and c.from_residual.result c.from_residual.ensures.1 in
    let l = c.loop-variable in
    let why = only_row _ _ _ c.in_err-push.ensures.0 in
    let bad = turn_refused 5 (length (sizes_of c.args.sizes.now)) c.args.variables.now (scope_of l.scope) l.variable-index (omega arith) l.invariant.0 l.invariant.1 why.0 in
    rw (p.1, p.2, why.1) (rw bad (refl, tt))

pub loop-variable-preserved : goal.loop-variable-preserved
loop-variable-preserved c =
    let l = c.loop-variable in
    let n = length (sizes_of c.args.sizes.now) in
    let why = c.in_ok-push.ensures in (
      turn_same 5 n c.args.variables.now (scope_of l.scope) l.variable-index (omega arith) l.invariant.0 l.invariant.1 (scope_of c.push.new.self) why.1,
      turn_taken 5 n c.args.variables.now (scope_of l.scope) l.variable-index (omega arith) l.invariant.0 l.invariant.1 (no_row _ _ why.0),
    )

pub returns : goal.returns
returns c =
    let vs = c.args.variables.now in
    let whole = take_all c.loop-variable.variable-index vs (omega arith) in
    (grind arith, cc)
