use Rattle.std.proofs.Common.{◌≡◌, ℕ, map, Some, sym, ap, ◌∙◌, arith}
use Rattle.std.proofs.lemmas.List.{length-set}
use Rattle.variables.specs.declared.plain.Scope.{Scope}
use Rattle.variables.specs.Records.{order_of, scope_of}
use Rattle.problems.specs.Records.{nth, placed_of}
use Rattle.problems.specs.declared.plain.TableRecord.{TableRecord}
use Rattle.problems.proofs.Placements.{nth_map}
use Rattle.floors.specs.ByNumber.{bucket_of}
use Rattle.floors.specs.Sources.{bucket_in}
use Rattle.floors.proofs.Places.{noted_more}
use Rattle.floors.proofs.plain.Places.of_records.Goals as goal
use Rattle.floors.proofs.plain.Places.of_records.Goals.{then-k, else-k}

pub loop-k-preserved : goal.loop-k-preserved
loop-k-preserved g c =
    let order = order_of c.args.order.now in
    let rs = c.args.records.now in
    let p = placed_of {END = g.row.END} in
    let k = c.loop-k.k in
    let f : ℕ → ℕ = λ j. bucket_in order (nth (map p rs) j) in
    elim c.if-k.branch [
      | then-k w ↦
          let there = nth_map p rs k c.index-records-k.result (omega arith) ∙ ap (λ (r : TableRecord g.row.END). Some (p r)) (sym c.index-records-k.is) in
          let here : w.bucket.result ≡ f k = w.bucket.ensures ∙ ap (λ (s : Scope). bucket_of order (scope_of s)) w.scope.ensures ∙ sym (ap (bucket_in order) there) in
          rw w.places-is (
            length-set c.loop-k.places k w.bucket.result ∙ c.loop-k.invariant.0,
            noted_more f g.row.N c.loop-k.places k w.bucket.result (omega (arith, c.loop-k.invariant.0, w.if-k.true)) here c.loop-k.invariant.1,
          )
      | else-k w ↦ rw w.places-is (c.loop-k.invariant.0, λ j few l. c.loop-k.invariant.1 j few (omega (arith, w.if-k.false)))
    ]
