use Rattle.std.proofs.Common.{◌+◌, ◌*◌, get_or, sym, ap, ◌∙◌, mul-one, arith}
use Rattle.std.proofs.lemmas.List.{at_drop_all, length-take}
use Rattle.variables.specs.Assignments.{cells}
use Rattle.variables.specs.Records.{sizes_of, scope_of}
use Rattle.variables.proofs.Cells.{arity_few, count_more, count_fits, count_few}
use Rattle.variables.proofs.plain.Scope.table_cells.Goals as goal

pub overflow_mul-count : goal.overflow_mul-count
overflow_mul-count c =
    let i = c.loop-v.v-index in
    let v = get_or c.variables-v-items.result.now i 0 in
    let few = arity_few c.args.self.now _ c.variables-v-items.ensures i c.loop-v-test.true in
    count_fits _ (i + 1) (omega arith) (count_more c.loop-v.count (get_or c.args.sizes.now.sizes v 0) i c.loop-v.invariant.1 (c.args.sizes.now.small v))

pub returns : goal.returns
returns c =
    let i = c.loop-v.v-index in
    let s = c.args.self.now in
    let left = rw c.variables-v-items.ensures at c.loop-v-test.false in
    let end = rw c.variables-v-items.ensures at c.loop-v.auto.v-index-end in
    let done = at_drop_all (cells (sizes_of c.args.sizes.now)) (scope_of s) i left in
    record {
      count = sym (ap (λ k. c.loop-v.count * k) done ∙ mul-one _) ∙ c.loop-v.invariant.0;
      few = count_few c.loop-v.count i (omega (arith, end, length-take s.len s.variables)) c.loop-v.invariant.1;
    }
