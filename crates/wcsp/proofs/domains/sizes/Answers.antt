use Rattle.std.proofs.Common.{ℕ, ◌+◌, ◌-◌, List, [], length, sym, refl, ap, ◌∙◌, arith}
use Rattle.std.proofs.lemmas.List.{length_push}
use Rattle.std.proofs.lemmas.Result.{err_from_is_err_and}
use Rattle.variables.specs.Records.{sizes_of}
use Rattle.words.specs.Words.{Word}
use Rattle.words.specs.Readings.{Reading}
use Rattle.words.specs.Readers.{text_of, left_of}
use Rattle.wcsp.specs.Rules.{size_rule}
use Rattle.words.specs.Ruled.{number_by}
use Rattle.wcsp.specs.Layouts.{sizes_from}
use Rattle.words.proofs.Steps.{one_more, one_fault}
use Rattle.wcsp.proofs.domains.sizes.Goals as goal

abbrev one : List ℕ → ℕ → List ℕ → List Word → Reading ℕ
one text max done ws = number_by (length text) (size_rule max) ws

pub returns-in_err-size-clause-read : goal.returns-in_err-size-clause-read
returns-in_err-size-clause-read c =
    let p = err_from_is_err_and c.from_residual.result c.from_residual.ensures.1 in
    let l = c.loop-v in
    let text = text_of c.args.reader.now in
    let max = c.args.largest in
    let read = ap (λ t. one t max [] (left_of l.reader)) (sym l.invariant.0) ∙ c.in_err-size.ensures.read in
    let broken = one_fault (sizes_from (length text) max) (one text max) (λ _ _ _. refl) c.args.count l._v (sizes_of l.sizes) (left_of l.reader) c.in_err-size.field-0.0 (omega arith) read in
    rw (p.1, p.2) (sym l.invariant.2 ∙ broken)

pub loop-v-preserved : goal.loop-v-preserved
loop-v-preserved c =
    let l = c.loop-v in
    let text = text_of c.args.reader.now in
    let max = c.args.largest in
    let got = c.in_ok-size.ensures.read in
    let read = ap (λ t. one t max [] (left_of l.reader)) (sym l.invariant.0) ∙ got.1 in
    let more = one_more (sizes_from (length text) max) (one text max) (λ _ _ _. refl) c.args.count l._v (sizes_of l.sizes) (left_of l.reader) got.0 (left_of c.size.new.reader) (omega arith) read in (
      c.in_ok-size.ensures.kept ∙ l.invariant.0,
      ap length got.2 ∙ length_push (sizes_of l.sizes) got.0 ∙ ap (λ n. n + 1) l.invariant.1,
      ap (λ done. sizes_from (length text) max (c.args.count - (l._v + 1)) done (left_of c.size.new.reader)) got.2 ∙ sym more ∙ l.invariant.2,
    )
