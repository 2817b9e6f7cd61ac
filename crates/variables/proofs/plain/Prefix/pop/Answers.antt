use Rattle.std.proofs.Common.{◌≡◌, ℕ, ◌+◌, ◌-◌, List, map, length, get_or, take, set, sym, ap, ◌∙◌, arith}
use Rattle.variables.specs.Assignments.{of}
use Rattle.variables.specs.Records.{order_of}
use Rattle.variables.proofs.Prefixes.{last_value}
use Rattle.variables.proofs.plain.Prefix.pop.Goals as goal

pub returns-clause-after : goal.returns-clause-after
returns-clause-after c =
    let o = c.args.order.now in
    let len = c.args.self.now.len in
    let k = len - 1 in
    let slots = c.args.self.now.setting.values in
    let same = c.variables-variables.ensures in
    let given = c.give.ensures ∙ ap (λ (vs : List ℕ). set slots (get_or vs k 0) 0) same in
    let whole : k + 1 ≡ len = omega arith in
    let last = last_value (order_of o) slots k 0 (omega (arith, ap length same)) o.apart in
    let value = c.value-value.ensures ∙ ap (λ (vs : List ℕ). of slots (get_or vs k 0)) same in
    record {
      len = whole;
      slots = given;
      values = ap (λ n. map (of slots) (take n (order_of o))) (sym whole) ∙ last ∙ rw (← given, ← value);
    }
