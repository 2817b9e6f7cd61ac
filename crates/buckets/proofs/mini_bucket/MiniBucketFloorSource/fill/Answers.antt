use Rattle.std.proofs.Common.{◌≡◌, ℕ, ◌+◌, List, length, drop, sym, refl, ap, ◌∙◌, subst, ap₂, arith}
use Rattle.std.proofs.lemmas.Bool.{cond-true}
use Rattle.variables.specs.Records.{sizes_of, order_of}
use Rattle.problems.specs.Records.{Placed, nth}
use Rattle.problems.specs.Outlines.{outline}
use Rattle.variables.specs.declared.plain.Order.{Order}
use Rattle.floors.specs.Rules.{frame}
use Rattle.floors.specs.Sources.{bucket_in}
use Rattle.buckets.specs.Going.{Able, Spacious, Gone}
use Rattle.buckets.specs.Listed.{listed, tabled}
use Rattle.buckets.specs.Made.{scopes_made, all_cells}
use Rattle.buckets.specs.Processed.{scopes_of}
use Rattle.buckets.specs.Sources.{short, mini_suits, mini_room}
use Rattle.buckets.proofs.Keeping.{narrow_from, able_planned, spacious_planned, as_shaped, kept_records, kept_tables}
use Rattle.problems.proofs.Placements.{mapped_length}
use Rattle.buckets.proofs.mini_bucket.MiniBucketFloorSource.fill.Goals as goal

pub make-made-requires : goal.make-made-requires
make-made-requires g c =
    let shape = c.args.shape.now in
    let plan = c.of-plan.result in
    let fs = listed c.of-functions.result in
    let w = c.args.self.now.width in
    let narrow = narrow_from w (short w (scopes_of (outline shape).functions)) c.requires.suited in
    let width = sym c.of-plan.ensures.width in
    record {
      able = subst (λ (x : ℕ). Able (sizes_of plan.sizes) (order_of plan.order) x fs) width (able_planned shape plan fs c.of-plan.ensures.sizes c.of-plan.ensures.order c.of-functions.ensures w narrow);
      spacious = subst (λ (x : ℕ). Spacious (sizes_of plan.sizes) (order_of plan.order) x fs c.args.at (length c.args.area.now)) width
          (spacious_planned shape plan fs c.of-plan.ensures.sizes c.of-plan.ensures.order c.of-functions.ensures w c.args.at (length c.args.area.now) narrow c.requires.behind c.requires.suited c.requires.there);
    }

pub returns : goal.returns
returns g c =
    let K = g.C.Cost.structure in
    let shape = c.args.shape.now in
    let plan = c.of-plan.result in
    let fs = listed c.of-functions.result in
    let w = c.args.self.now.width in
    let at = c.args.at in
    let area = c.args.area.now in
    let area' = c.make-made.new.area in
    let made = c.make-made.result in
    let narrow = narrow_from w (short w (scopes_of (outline shape).functions)) c.requires.suited in
    let total : ℕ = all_cells (outline shape).sizes (scopes_made (outline shape).order w (scopes_of (outline shape).functions) (length (outline shape).order)) in
    let gone : Gone K (outline shape).sizes (outline shape).order w (outline shape).functions area at 0 (listed made.records) made.reach area' (at + total) =
    as_shaped shape plan fs c.of-plan.ensures.sizes c.of-plan.ensures.order c.of-functions.ensures
    (λ s x l. Gone K s x w l area at 0 (listed made.records) made.reach area' (at + all_cells s (scopes_made x w (scopes_of l) (length x))))
    (subst (λ (v : ℕ). Gone K (sizes_of plan.sizes) (order_of plan.order) v fs area at 0 (listed made.records) made.reach area' (at + all_cells (sizes_of plan.sizes) (scopes_made (order_of plan.order) v (scopes_of fs) (length (order_of plan.order)))))
    c.of-plan.ensures.width c.make-made.ensures) in
    let room : mini_room w (frame (outline shape)) ≡ total = cond-true (mini_suits w (frame (outline shape))) total 0 c.requires.suited in
    record {
      long = gone.long;
      before = gone.before;
      behind = ap (λ n. drop (at + n) area') room ∙ gone.behind ∙ ap (λ n. drop (at + n) area) (sym room);
      filled = record {
        suited = c.requires.suited;
        entered = c.len.ensures.count ∙ ap length c.of-functions.ensures;
        records = kept_records K shape w narrow area area' at c.requires.behind (listed made.records) made.reach (at + total) gone;
        tables = kept_tables K shape w narrow area area' at c.requires.behind (listed made.records) made.reach (at + total) gone;
        reach = λ p l. gone.reached p (omega arith) l;
        buckets = λ k h.
            c.of_records.ensures k (omega (arith, c.as_slice.ensures.few, mapped_length tabled c.as_slice.result.now (listed made.records) c.as_slice.ensures.records)) (omega (arith, mapped_length tabled c.as_slice.result.now (listed made.records) c.as_slice.ensures.records))
            ∙ ap₂ (λ (x : Order) (l : List Placed). bucket_in (order_of x) (nth l k)) c.of-plan.ensures.order c.as_slice.ensures.records;
      };
      same_suits = λ f. refl;
      same_room = λ f. refl;
      same_meaning = λ p x. refl;
    }
