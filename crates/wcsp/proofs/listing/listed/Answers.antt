use Rattle.std.proofs.Common.{ℕ, List, [], ◌∷◌, ◌++◌, length, sym, refl, ap, ◌∙◌, arith}
use Rattle.std.proofs.lemmas.Result.{err_from_is_err_and}
use Rattle.variables.specs.Records.{sizes_of, scope_of}
use Rattle.words.specs.Words.{Word}
use Rattle.words.specs.Readings.{Reading}
use Rattle.words.specs.Readers.{text_of, left_of}
use Rattle.wcsp.specs.Layouts.{Listed, listing, listed_from}
use Rattle.wcsp.specs.Passes.{by_pass}
use Rattle.wcsp.specs.Tables.{amend, amended}
use Rattle.words.proofs.Steps.{one_more, one_fault}
use Rattle.wcsp.proofs.Amends.{amended_push, pass_more}
use Rattle.wcsp.proofs.listing.listed.Goals as goal

abbrev one : List ℕ → List ℕ → List ℕ → List Listed → List Word → Reading Listed
one text sizes scope done ws = listing (length text) sizes scope ws

pub returns-in_err-listing-clause-read : goal.returns-in_err-listing-clause-read
returns-in_err-listing-clause-read c =
    let p = err_from_is_err_and c.from_residual.result c.from_residual.ensures.1 in
    let l = c.loop-k in
    let text = text_of c.args.reader.now in
    let sizes = sizes_of c.args.sizes.now in
    let scope = scope_of c.args.scope.now in
    let words = left_of l.reader in
    let read = ap (λ t. one t sizes scope [] words) (sym l.invariant.0) ∙ c.in_err-listing.ensures.read in
    let broken = one_fault (listed_from (length text) sizes scope) (one text sizes scope) (λ _ _ _. refl) c.args.count l._k l.invariant.1.0 words c.in_err-listing.field-0.0 (omega arith) read in
    rw (p.1, p.2) (sym l.invariant.1.1 ∙ broken)

pub loop-k-preserved : goal.loop-k-preserved
loop-k-preserved c =
    let l = c.loop-k in
    let text = text_of c.args.reader.now in
    let sizes = sizes_of c.args.sizes.now in
    let scope = scope_of c.args.scope.now in
    let table = c.args.table.now in
    let words = left_of l.reader in
    let done = l.invariant.1.0 in
    let got = c.in_ok-listing.ensures.read in
    let left = left_of c.listing.new.reader in
    let read = ap (λ t. one t sizes scope [] words) (sym l.invariant.0) ∙ got.1 in
    let more = one_more (listed_from (length text) sizes scope) (one text sizes scope) (λ _ _ _. refl) c.args.count l._k done words got.0 left (omega arith) read in (
      c.in_ok-listing.ensures.kept ∙ l.invariant.0,
      (
        done ++ got.0 ∷ [],
        sym more ∙ l.invariant.1.1,
        pass_more c.args.pass table l.table c.listing.new.table (amended sizes scope table done) (λ t. amend sizes scope t got.0) l.invariant.1.2 got.2 ∙ ap (by_pass c.args.pass table) (sym (amended_push sizes scope table done got.0)),
      ),
    )
