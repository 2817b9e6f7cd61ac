use Rattle.std.proofs.Common.{ℕ, ◌<◌, List, [], ◌∷◌, ◌++◌, length, get_or, set, sym, ap, ◌∙◌, arith}
use Rattle.variables.specs.Records.{sizes_of, scope_of, values_of}
use Rattle.variables.proofs.Cells.{variable_slot}
use Rattle.words.specs.Words.{Word}
use Rattle.words.specs.Readings.{Reading}
use Rattle.words.specs.Readers.{text_of, left_of}
use Rattle.wcsp.specs.Rules.{value_rule}
use Rattle.words.specs.Ruled.{number_by}
use Rattle.wcsp.proofs.Values.{value_more, value_below, fits_more, given_more}
use Rattle.wcsp.proofs.tuples.tuple.Goals as goal

abbrev one : List ℕ → ℕ → List Word → Reading ℕ
one text size ws = number_by (length text) (value_rule size) ws

pub loop-v-preserved : goal.loop-v-preserved
loop-v-preserved c =
    let l = c.loop-v in
    let i = l.v-index in
    let text = text_of c.args.reader.now in
    let sizes = sizes_of c.args.sizes.now in
    let vs = scope_of c.args.scope.now in
    let done = l.invariant.1.0 in
    let long = ap length c.variables-variables.ensures in
    let here : i < length vs = omega arith in
    let size = c.size.ensures ∙ ap (λ us. get_or sizes (get_or us i 0) 0) c.variables-variables.ensures in
    let var = ap (λ us. get_or us i 0) c.variables-variables.ensures in
    let words = left_of l.reader in
    let left = left_of c.value.new.reader in
    let x = c.in_ok-value.value in
    let read = ap (λ t. one t (get_or sizes (get_or vs i 0) 0) words) (sym l.invariant.0) ∙ ap (λ z. one (text_of l.reader) z words) (sym size) ∙ sym c.in_ok-value.ensures.read in
    let good = value_below (length text) sizes vs i done words here x left read in
    let slot = variable_slot c.args.scope.now _ c.variables-variables.ensures i c.loop-v-test.true in
    let room : get_or vs i 0 < length (values_of l.setting) = omega arith in (
      c.in_ok-value.ensures.kept ∙ l.invariant.0,
      (
        done ++ x ∷ [],
        sym (value_more (length text) sizes vs i done words here x left read) ∙ l.invariant.1.1,
        fits_more sizes vs done (values_of l.setting) i x here l.invariant.1.2 good,
        λ v. ap (λ s. get_or s v 0) (c.give.ensures ∙ ap (λ u. set (values_of l.setting) u x) var) ∙ given_more sizes vs done (values_of l.setting) i x here l.invariant.1.2 good c.args.scope.now.apart room l.invariant.1.3 v,
      ),
    )
