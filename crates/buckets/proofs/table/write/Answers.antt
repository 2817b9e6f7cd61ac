use Rattle.std.proofs.Common.{◌≡◌, ◌+◌, ◌<◌, List, ◌++◌, map, length, get_or, take, drop, set, sym, ap, ◌∙◌, arith}
use Rattle.std.proofs.lemmas.List.{take_all}
use Rattle.variables.specs.Assignments.{of, cells}
use Rattle.variables.specs.Records.{sizes_of, scope_of, values_of}
use Rattle.problems.specs.Records.{function_in}
use Rattle.floors.specs.MiniBuckets.{tabulate, eliminated}
use Rattle.floors.specs.Tables.{tabulate_length}
use Rattle.buckets.specs.Listed.{listed}
use Rattle.buckets.proofs.Writing.{written_more, written_front, least_here, table_at}
use Rattle.buckets.proofs.table.write.Goals as goal

pub loop-k-preserved : goal.loop-k-preserved
loop-k-preserved g c =
    let K = g.C.Cost.structure in
    let sizes = sizes_of c.args.sizes.now in
    let scope = scope_of c.args.scope.now in
    let ms = listed c.args.members.now in
    let v = c.args.variable in
    let area = c.args.area.now in
    let start = c.args.start in
    let k = c.loop-k.k in
    let a = of (values_of c.tuple-setting.result) in
    let table = tabulate sizes scope (eliminated K sizes v (map (function_in sizes area) ms)) (λ u. 0) in
    let long : length table ≡ cells sizes scope = tabulate_length sizes scope (eliminated K sizes v (map (function_in sizes area) ms)) (λ u. 0) in
    let few : k < cells sizes scope = omega (arith, c.table_cells-k-end.ensures.count) in
    let front : take start c.loop-k.area ≡ take start area = written_front area c.loop-k.area (take k table ++ drop (start + k) area) start (omega (arith, c.requires.there)) c.loop-k.invariant in
    let ranged = c.tuple-setting.ensures.ranged in
    let cost : c.least-cost.result ≡ eliminated K sizes v (map (function_in sizes area) ms) a =
    c.least-cost.ensures ∙ least_here K sizes scope v ms c.requires.inside area start c.loop-k.area front a ranged c.requires.below in
    let here : c.least-cost.result ≡ get_or table k c.least-cost.result =
    cost ∙ sym (table_at K sizes scope v ms c.requires.inside area a c.least-cost.result ranged k c.tuple-setting.ensures.place) in
    ap (λ (l : List g.row.C.Denot). set l (start + k) c.least-cost.result) c.loop-k.invariant
    ∙ written_more area table start k c.least-cost.result (omega (arith, c.requires.there)) (omega arith) here

pub returns : goal.returns
returns g c =
    let K = g.C.Cost.structure in
    let sizes = sizes_of c.args.sizes.now in
    let scope = scope_of c.args.scope.now in
    let area = c.args.area.now in
    let F = eliminated K sizes c.args.variable (map (function_in sizes area) (listed c.args.members.now)) in
    let table = tabulate sizes scope F (λ u. 0) in
    let k = c.loop-k.k in
    let end : k ≡ cells sizes scope = omega (arith, c.table_cells-k-end.ensures.count, c.loop-k-test.false, c.loop-k.auto.k-end) in
    let whole : take k table ≡ table = take_all k table (omega (arith, tabulate_length sizes scope F (λ u. 0))) in
    c.loop-k.invariant ∙ ap (λ (t : List g.row.C.Denot). take c.args.start area ++ (t ++ drop (c.args.start + k) area)) whole
    ∙ ap (λ n. take c.args.start area ++ (table ++ drop (c.args.start + n) area)) end
