use Rattle.std.proofs.Common.{◌≡◌, [], ◌∷◌, ◌++◌, map, length, ap, ◌∙◌, arith}
use Rattle.std.proofs.lemmas.List.{map_push}
use Rattle.lists.specs.Lists.{items_of}
use Rattle.std.proofs.lemmas.Bool.{not-false}
use Rattle.variables.specs.Records.{sizes_of}
use Rattle.problems.specs.Records.{Placed, placed, placed_of}
use Rattle.variables.proofs.Rows.{no_row}
use Rattle.problems.proofs.Placements.{laid_push, proper_more}
use Rattle.problems.proofs.shape.Shape.enter.Goals as goal

pub invariant_of-self : goal.invariant_of-self
invariant_of-self c =
    let s = c.args.self.now in
    let sizes = sizes_of s.sizes in
    let fs = placed s.functions in
    let new : Placed = placed_of c.entered.result in
    let all : placed c.push.new.self ≡ fs ++ new ∷ [] = ap (map placed_of) c.in-Ok.ensures.added ∙ map_push placed_of (items_of s.functions) c.entered.result in
    let scope = ap (λ (p : Placed). p.scope) c.entered.ensures in
    let start = ap (λ (p : Placed). p.start) c.entered.ensures in
    let ok = not-false _ (no_row _ _ c.in_ok-scope.ensures.0) in
    let same = c.in_ok-scope.ensures.1 in record {
      laid = rw (all, c.table_cells.ensures.count, ← scope) (laid_push sizes 2 s.used fs new s.laid start);
      scoped = rw all (proper_more (length sizes) fs new s.scoped (rw (scope, same) ok));
      ordered = s.ordered;
      low = omega arith;
    }
