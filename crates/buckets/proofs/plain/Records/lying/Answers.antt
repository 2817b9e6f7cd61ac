use Rattle.std.proofs.Common.{◌≡◌, ◌+◌, List, [], ◌∷◌, ◌++◌, length, drop, sym, ap, ◌∙◌, arith}
use Rattle.std.proofs.lemmas.List.{length_push}
use Rattle.std.proofs.lemmas.Bool.{eq-eqb, ne_eqb}
use Rattle.variables.specs.Records.{order_of, scope_of}
use Rattle.problems.specs.Records.{Placed}
use Rattle.variables.specs.declared.plain.Scope.{Scope}
use Rattle.floors.specs.Settings.{kept}
use Rattle.floors.specs.ByNumber.{bucket_of}
use Rattle.buckets.specs.Listed.{listed, tabled}
use Rattle.buckets.specs.Joining.{lies_at}
use Rattle.buckets.proofs.Listing.{mapped_drop, keeps, passes}
use Rattle.buckets.proofs.plain.Records.lying.Goals as goal
use Rattle.buckets.proofs.plain.Records.lying.Goals.{then-bucket-number, else-bucket-number}

pub loop-function-preserved : goal.loop-function-preserved
loop-function-preserved c =
    let order = order_of c.args.order.now in
    let test = lies_at order c.args.number in
    let all = c.args.self.now in
    let k = c.loop-function.function-index in
    let item = c.function-item.result in
    let next = mapped_drop tabled c.as_slice-function-items.result.now (listed all) c.as_slice-function-items.ensures.records k c.function-item.result c.loop-function-test.true c.function-item.is in
    let at : c.bucket.result ≡ bucket_of order (scope_of item.scope) = c.bucket.ensures ∙ ap (λ (s : Scope). bucket_of order (scope_of s)) c.scope.ensures in
    elim c.if-bucket-number.branch [
      | then-bucket-number w ↦
          let more : listed c.if-bucket-number.lying ≡ listed c.loop-function.lying ++ tabled item ∷ [] = ap listed w.lying-is ∙ w.push.ensures in (
            keeps test (listed all) k (tabled item) (listed c.loop-function.lying) _ next c.loop-function.invariant.0 (eq-eqb _ _ (sym at ∙ w.if-bucket-number.true)) _ more,
            omega (arith, c.loop-function.invariant.1, ap length more, length_push (listed c.loop-function.lying) (tabled item)),
          )
      | else-bucket-number w ↦
          let same : listed c.if-bucket-number.lying ≡ listed c.loop-function.lying = ap listed w.lying-is in (
            ap (λ (l : List Placed). l ++ kept test (drop (k + 1) (listed all))) same
                ∙ passes test (listed all) k (tabled item) (listed c.loop-function.lying) _ next c.loop-function.invariant.0 (ne_eqb _ _ (λ e. w.if-bucket-number.false (at ∙ e))),
            omega (arith, c.loop-function.invariant.1, ap length same),
          )
    ]
