use Rattle.std.proofs.Common.{ℕ, ◌+◌, List, map, length, take, get_or, set, refl, ap, ◌∙◌, arith}
use Rattle.variables.specs.Assignments.{of}
use Rattle.variables.specs.Records.{order_of}
use Rattle.variables.proofs.Prefixes.{next_value}
use Rattle.variables.proofs.plain.Prefix.push.Goals as goal

pub returns-clause-after : goal.returns-clause-after
returns-clause-after c =
    let o = c.args.order.now in
    let k = c.args.self.now.len in
    let slots = c.args.self.now.setting.values in
    record {
      len = refl;
      slots = c.give.ensures ∙ ap (λ (vs : List ℕ). set slots (get_or vs k 0) c.args.value) c.variables-variables.ensures;
      values = ap (λ (xs : List ℕ). map (of xs) (take (k + 1) (order_of o))) (c.give.ensures ∙ ap (λ (vs : List ℕ). set slots (get_or vs k 0) c.args.value) c.variables-variables.ensures)
          ∙ next_value (order_of o) slots k c.args.value (omega (arith, ap length c.variables-variables.ensures)) o.apart (omega (arith, o.within k));
    }
