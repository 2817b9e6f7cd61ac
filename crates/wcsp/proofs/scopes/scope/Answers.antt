use Rattle.std.proofs.Common.{ℕ, ◌+◌, ◌-◌, ◌<◌, List, length, sym, refl, ap, ◌∙◌, arith}
use Rattle.std.proofs.lemmas.List.{length_push}
use Rattle.std.proofs.lemmas.Result.{err_from_is_err_and}
use Rattle.variables.specs.Records.{sizes_of, scope_of}
use Rattle.variables.specs.Rules.{proper}
use Rattle.words.specs.Words.{Word}
use Rattle.words.specs.Readings.{Reading}
use Rattle.words.specs.Readers.{text_of, left_of}
use Rattle.wcsp.specs.Rules.{variable_rule}
use Rattle.words.specs.Ruled.{number_by}
use Rattle.wcsp.specs.Layouts.{scope_from}
use Rattle.words.proofs.Rulings.{rule_kept}
use Rattle.wcsp.proofs.Rulings.{still_proper}
use Rattle.words.proofs.Steps.{one_more, one_fault}
use Rattle.wcsp.proofs.scopes.scope.Goals as goal

abbrev one : List ℕ → ℕ → List ℕ → List Word → Reading ℕ
one text n done ws = number_by (length text) (variable_rule n done) ws

pub returns-in_err-variable-clause-read : goal.returns-in_err-variable-clause-read
returns-in_err-variable-clause-read c =
    let p = err_from_is_err_and c.from_residual.result c.from_residual.ensures.1 in
    let l = c.loop-k in
    let text = text_of c.args.reader.now in
    let n = length (sizes_of c.args.sizes.now) in
    let scope = scope_of l.scope in
    let read = ap (λ t. one t n scope (left_of l.reader)) (sym l.invariant.0) ∙ c.in_err-variable.ensures.read in
    let broken = one_fault (scope_from (length text) n) (one text n) (λ _ _ _. refl) c.args.arity l._k scope (left_of l.reader) c.in_err-variable.field-0.0 (omega arith) read in
    rw (p.1, p.2) (sym l.invariant.2 ∙ broken)

pub loop-k-preserved : goal.loop-k-preserved
loop-k-preserved c =
    let l = c.loop-k in
    let text = text_of c.args.reader.now in
    let n = length (sizes_of c.args.sizes.now) in
    let scope = scope_of l.scope in
    let got = c.in_ok-variable.ensures.read in
    let left = left_of c.variable.new.reader in
    let read = ap (λ t. one t n scope (left_of l.reader)) (sym l.invariant.0) ∙ got.1 in
    let more = one_more (scope_from (length text) n) (one text n) (λ _ _ _. refl) c.args.arity l._k scope (left_of l.reader) got.0 left (omega arith) read in
    let few : length scope < 5 = omega arith in
    let rule = rule_kept (length text) (variable_rule n scope) (left_of l.reader) got.0 left read in (
      c.in_ok-variable.ensures.kept ∙ l.invariant.0,
      ap length got.2 ∙ length_push scope got.0 ∙ ap (λ k. k + 1) l.invariant.1,
      ap (λ done. scope_from (length text) n (c.args.arity - (l._k + 1)) done left) got.2 ∙ sym more ∙ l.invariant.2,
      ap (proper n) got.2 ∙ still_proper n scope got.0 few l.invariant.3 rule,
    )
