use Rattle.std.proofs.Common.{◌+◌, [], ◌∷◌, ◌++◌, length, sym, refl, ap, ◌∙◌, arith}
use native.Mathlib.Nat.{sub-zero}
use Rattle.std.proofs.lemmas.List.{length_push}
use Rattle.std.proofs.lemmas.Result.{err_from_is_err_and}
use Rattle.problems.specs.Outlines.{Outline, outline}
use Rattle.words.specs.Readers.{text_of, left_of}
use Rattle.wcsp.specs.Layouts.{entries_from}
use Rattle.wcsp.specs.Passes.{by_pass}
use Rattle.wcsp.specs.Tables.{table_of, laid}
use Rattle.wcsp.specs.Described.{tables}
use Rattle.wcsp.proofs.Amends.{pass_none, pass_more}
use Rattle.wcsp.proofs.Turns.{entered_length, entries_fault, entries_more, outline_more, laid_behind, laid_none}
use Rattle.wcsp.proofs.entry.entries.Goals as goal

pub loop-k-init : goal.loop-k-init
loop-k-init c =
    let o = outline c.args.shape.now in
    let area = c.args.area.now in (
      refl,
      (
        [],
        ap (λ n. entries_from (length (text_of c.args.reader.now)) (length area) o.sizes n o.used [] (left_of c.args.reader.now)) (sub-zero c.args.count),
        refl,
        refl,
        pass_none c.args.pass area (laid area o.used []) (laid_none area o.used),
      ),
    )

pub entry-requires-clause-few : goal.entry-requires-clause-few
entry-requires-clause-few c =
    let l = c.loop-k in
    let o = outline c.args.shape.now in
    let entered = ap (λ (z : Outline). length z.functions) l.invariant.1.2 in
    omega (arith, entered_length o l.invariant.1.0)

pub returns-in_err-entry-clause-read : goal.returns-in_err-entry-clause-read
returns-in_err-entry-clause-read c =
    let p = err_from_is_err_and c.from_residual.result c.from_residual.ensures.1 in
    let l = c.loop-k in
    let area = c.args.area.now in
    let broken = entries_fault (text_of l.reader) (text_of c.args.reader.now) l.area area (outline l.shape) (outline c.args.shape.now) l.invariant.1.0 c.args.count l._k (left_of l.reader)
    l.invariant.0 l.auto.area l.invariant.1.2 (omega arith) c.in_err-entry.field-0.0 c.in_err-entry.ensures.read in
    rw (p.1, p.2) (sym l.invariant.1.1 ∙ broken)

pub loop-k-preserved : goal.loop-k-preserved
loop-k-preserved c =
    let l = c.loop-k in
    let text = text_of l.reader in
    let text₀ = text_of c.args.reader.now in
    let area = c.args.area.now in
    let o = outline l.shape in
    let o₀ = outline c.args.shape.now in
    let o' = outline c.entry.new.shape in
    let done = l.invariant.1.0 in
    let words = left_of l.reader in
    let count = c.args.count in
    let got = c.in_ok-entry.ensures.read in
    let more = entries_more text text₀ l.area area o o₀ done count l._k words l.invariant.0 l.auto.area l.invariant.1.2 (omega arith) o' got.0 (left_of c.entry.new.reader) got.1 got.2.0 in
    let behind = laid_behind text text₀ l.area area o o₀ done count l._k words l.invariant.0 l.auto.area l.invariant.1.2 (omega arith) got.0 c.requires.used in (
      c.in_ok-entry.ensures.kept ∙ l.invariant.0,
      (
        done ++ got.0 ∷ [],
        sym more ∙ l.invariant.1.1,
        outline_more text text₀ l.area area o o₀ done count l._k words l.invariant.0 l.auto.area l.invariant.1.2 (omega arith) o' got.0 got.2.0,
        length_push done got.0 ∙ ap (λ n. n + 1) l.invariant.1.3,
        pass_more c.args.pass area l.area c.entry.new.area (laid area o₀.used (tables o₀.sizes done)) (λ a. laid a o.used (table_of o.sizes got.0)) l.invariant.1.4 got.2.1 ∙ ap (by_pass c.args.pass area) behind,
      ),
    )
