use Rattle.std.proofs.Common.{◌+◌, ◌≤◌, get_or, sym, ◌∙◌, arith, rules}
use Rattle.std.proofs.lemmas.List.{at_drop_all, length-take}
use Rattle.variables.specs.Assignments.{of, cell_from}
use Rattle.variables.specs.Records.{sizes_of, scope_of, values_of}
use Rattle.variables.proofs.Cells.{arity_few, place_more, place_fits, place_few}
use Rattle.variables.proofs.plain.Scope.cell.Goals as goal

pub overflow_mul-at : goal.overflow_mul-at
overflow_mul-at c =
    let i = c.loop-v.v-index in
    let v = get_or c.variables-v-items.result.now i 0 in
    let few = arity_few c.args.self.now _ c.variables-v-items.ensures i c.loop-v-test.true in
    place_fits _ (i + 1) _ (omega arith) (place_more c.loop-v.at (get_or c.args.sizes.now.sizes v 0) 0 i c.loop-v.invariant.1 (c.args.sizes.now.small v) (omega arith)) (omega arith)

pub overflow_add-at : goal.overflow_add-at
overflow_add-at c =
    let i = c.loop-v.v-index in
    let v = get_or c.variables-v-items.result.now i 0 in
    let few = arity_few c.args.self.now _ c.variables-v-items.ensures i c.loop-v-test.true in
    let byte : get_or c.args.setting.now.values v 0 ≤ 255 = search rules in
    place_fits _ (i + 1) _ (omega arith) (place_more c.loop-v.at (get_or c.args.sizes.now.sizes v 0) (get_or c.args.setting.now.values v 0) i c.loop-v.invariant.1 (c.args.sizes.now.small v) byte) (omega arith)

pub returns : goal.returns
returns c =
    let i = c.loop-v.v-index in
    let s = c.args.self.now in
    let end = rw c.variables-v-items.ensures at c.loop-v.auto.v-index-end in
    let done = at_drop_all (λ vs. cell_from (sizes_of c.args.sizes.now) c.loop-v.at vs (of (values_of c.args.setting.now))) (scope_of s) i
    (rw c.variables-v-items.ensures at c.loop-v-test.false) in
    record {
      place = sym done ∙ c.loop-v.invariant.0;
      bound = place_few c.loop-v.at i (omega (arith, end, length-take s.len s.variables)) c.loop-v.invariant.1;
    }
