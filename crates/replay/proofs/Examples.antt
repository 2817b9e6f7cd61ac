-- Four calls on one area are proper, so the promise speaks of their answers.
use Rattle.std.proofs.Common.{refl}
use Rattle.replay.specs.Examples.{PromiseIsMeant}

pub promise_is_meant : (C : Type 0) → PromiseIsMeant C
promise_is_meant C K sizes order limit budget area buffer moved told shown promise =
    let report = (promise (λ _. tt, (λ _. refl, (λ _. refl, (λ _. refl, tt))))).1.1.1.0 in
    let verdict = report.verdict in
    (λ e. rw e at verdict, λ e. rw e at verdict)
