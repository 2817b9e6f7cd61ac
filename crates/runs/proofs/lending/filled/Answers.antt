use Rattle.std.proofs.Common.{◌≡◌, List, [], ◌++◌, length, take, replicate, rules, sym, ap, ◌∙◌}
use Rattle.jobs.proofs.Fills.{filled_alike}
use Rattle.runs.proofs.lending.filled.Goals as goal

pub returns : goal.returns
returns g c =
    let ran = c.in_ok-resize_with.ensures.items in
    let ys = ran.0 in
    let bare : take c.args.count c.new-cells.result.items ≡ [] = search rules in
    let all : c.resize_with.new.self.items ≡ ys = ran.2 ∙ ap (λ (xs : List g.row.C.Denot). xs ++ ys) bare in
    let len : length c.resize_with.new.self.items ≡ c.args.count = search rules in
    let long : length ys ≡ c.args.count = sym (ap length all) ∙ len in
    let alike = filled_alike _ (λ f. f.0.now) (λ f x f' h. search rules) _ ran.1 ys ran.3 in
    all ∙ alike ∙ ap (λ n. replicate n c.args.content) long
