use Rattle.std.proofs.Common.{◌≡◌, false, List, [], ◌∷◌, ◌++◌, length, get_or, sym, ap, ◌∙◌, arith}
use Rattle.std.proofs.lemmas.List.{length_push}
use Rattle.variables.specs.Records.{order_of, scope_of}
use Rattle.problems.specs.Records.{Placed}
use Rattle.buckets.specs.declared.plain.Named.{Named}
use Rattle.buckets.specs.Listed.{listed, tabled}
use Rattle.buckets.specs.Joining.{names, joins}
use Rattle.buckets.proofs.Listing.{mapped_drop}
use Rattle.buckets.proofs.Joining.{joins_turn, waits_turn}
use Rattle.buckets.proofs.Marking.{named_push}
use Rattle.buckets.proofs.parting.part.Goals as goal
use Rattle.buckets.proofs.parting.part.Goals.{then-may_join, else-may_join}

pub loop-function-preserved : goal.loop-function-preserved
loop-function-preserved c =
    let order = order_of c.args.order.now in
    let w = c.args.width in
    let all = c.args.waiting.now in
    let k = c.loop-function.function-index in
    let l = c.loop-function in
    let item = c.function-item.result in
    let next = mapped_drop tabled c.as_slice-function-items.result.now (listed all) c.as_slice-function-items.ensures.records k c.function-item.result c.loop-function-test.true c.function-item.is in
    let scope : scope_of c.scope-scope.result ≡ scope_of item.scope = ap scope_of c.scope-scope.ensures in
    let test : c.may_join.result ≡ joins order w (listed l.members) (scope_of item.scope) = c.may_join.ensures ∙ ap (joins order w (listed l.members)) scope in
    elim c.if-may_join.branch [
      | then-may_join w' ↦
          let more : listed c.if-may_join.members ≡ listed l.members ++ tabled item ∷ [] = ap listed w'.members-is ∙ w'.push.ensures in
          let same : listed c.if-may_join.rest ≡ listed l.rest = ap listed w'.rest-is in
          let turn = joins_turn order w (listed all) k (tabled item) (listed l.members) next (listed l.rest) _ _ l.invariant.0 l.invariant.1 (sym test ∙ w'.if-may_join.true) _ _ more same in (
            turn.0,
            turn.1,
            λ v h. ap (λ (n : Named). get_or n.named v false) w'.named-is
                ∙ named_push (listed l.members) (tabled item) (scope_of c.scope-scope.result) scope l.named.named w'.add.new.self.named l.invariant.2 w'.add.ensures _ more v h,
            omega (arith, l.invariant.3, ap length more, length_push (listed l.members) (tabled item)),
            omega (arith, l.invariant.4, ap length same),
          )
      | else-may_join w' ↦
          let same : listed c.if-may_join.members ≡ listed l.members = ap listed w'.members-is in
          let more : listed c.if-may_join.rest ≡ listed l.rest ++ tabled item ∷ [] = ap listed w'.rest-is ∙ w'.push-else-may_join.ensures in
          let turn = waits_turn order w (listed all) k (tabled item) (listed l.members) next (listed l.rest) _ _ l.invariant.0 l.invariant.1 (sym test ∙ w'.if-may_join.false) _ _ same more in (
            turn.0,
            turn.1,
            λ v h. ap (λ (n : Named). get_or n.named v false) w'.named-is ∙ l.invariant.2 v h ∙ ap (λ (x : List Placed). names x v) (sym same),
            omega (arith, l.invariant.3, ap length same),
            omega (arith, l.invariant.4, ap length more, length_push (listed l.rest) (tabled item)),
          )
    ]
