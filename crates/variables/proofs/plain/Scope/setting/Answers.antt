use Rattle.std.proofs.Common.{◌+◌, ◌≤◌, ◌&&◌, length, get_or, drop, sym, ap, ◌∙◌, inl, inr, arith}
use Rattle.std.proofs.lemmas.List.{take_all, drop_all}
use Rattle.std.proofs.lemmas.Bool.{cases_Bool, lt-ltb}
use Rattle.variables.specs.Records.{sizes_of, scope_of}
use Rattle.variables.specs.Rules.{fits}
use Rattle.variables.proofs.Cells.{variable_slot}
use Rattle.variables.proofs.Tuples.{fits_length, fits_more, along_more}
use Rattle.variables.proofs.plain.Scope.setting.Goals as goal

pub returns-then-variables-tuple : goal.returns-then-variables-tuple
returns-then-variables-tuple c =
    let sizes = sizes_of c.args.sizes.now in
    let scope = scope_of c.args.self.now in
    elim (cases_Bool (fits sizes scope c.args.tuple.now)) [
      | inl e ↦ absurd (c.if-variables-tuple.true (ap length c.variables-variables.ensures ∙ fits_length sizes scope c.args.tuple.now e))
      | inr e ↦ e
    ]

pub loop-k-preserved : goal.loop-k-preserved
loop-k-preserved c =
    let sizes = sizes_of c.args.sizes.now in
    let scope = scope_of c.args.self.now in
    let tuple = c.args.tuple.now in
    let k = c.loop-k.k in
    let long = ap length c.variables-variables.ensures in
    let step = fits_more sizes scope tuple k (omega arith) (omega arith) in
    let value = ap (λ vs. get_or sizes (get_or vs k 0) 0) c.variables-variables.ensures in
    let good = lt-ltb (get_or tuple k 0) (get_or sizes (get_or scope k 0) 0) (omega arith) in
    let slot = variable_slot c.args.self.now _ c.variables-variables.ensures k c.loop-k-test.true in
    let var = ap (λ vs. get_or vs k 0) c.variables-variables.ensures in (
      c.loop-k.invariant.0,
      sym (step ∙ ap (λ b. b && fits sizes (drop (k + 1) scope) (drop (k + 1) tuple)) good) ∙ c.loop-k.invariant.1,
      λ v. rw (c.give.ensures, var) (along_more scope tuple c.loop-k.setting.values k (omega arith) c.loop-k.invariant.0 c.args.self.now.apart (omega arith) c.loop-k.invariant.2 v),
    )

pub returns : goal.returns
returns c =
    let scope = scope_of c.args.self.now in
    let tuple = c.args.tuple.now in
    let k = c.loop-k.k in
    let long = ap length c.variables-variables.ensures in
    let end : length scope ≤ k = omega arith in
    let end' : length tuple ≤ k = omega arith in (
      rw (drop_all k scope end, drop_all k tuple end') at (sym c.loop-k.invariant.1),
      λ v. rw (take_all k scope end, take_all k tuple end') at (c.loop-k.invariant.2 v),
    )
