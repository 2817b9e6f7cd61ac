use Rattle.std.proofs.Common.{◌≡◌, ℕ, ◌-◌, ◌/◌, ◌%◌, ◌<◌, ◌≤◌, true, List, [], ◌∷◌, ◌++◌, length, get_or, take, drop, set, sym, refl, ap, ◌∙◌, mod-lt, arith}
use mir.Facts.{Fits-below}
use Rattle.std.proofs.lemmas.List.{take_all, drop_all}
use Rattle.std.proofs.lemmas.Bool.{both_ways}
use Rattle.variables.specs.Lists.{has}
use Rattle.variables.specs.Assignments.{of, cells, cell_from}
use Rattle.variables.specs.Records.{sizes_of, scope_of, values_of}
use Rattle.variables.specs.declared.plain.Scope.{Scope}
use Rattle.variables.specs.declared.plain.Sizes.{Sizes}
use Rattle.buckets.proofs.Bounds.{getD_has}
use Rattle.buckets.proofs.Lows.{scope_low}
use Rattle.buckets.proofs.Tuples.{some_size, turn_cell, turn_ranged, turn_others, tuple_all, back_length, back_value, back_front}
use Rattle.buckets.proofs.table.tuple.Goals as goal

pub loop-v-init : goal.loop-v-init
loop-v-init c =
    let scope = scope_of c.args.scope.now in
    let rest = c.into_iter-v-iterator.result.iter.rest.now in
    let whole : rest ≡ scope = cc in
    let end : drop (length rest) scope ≡ [] = drop_all (length rest) scope (omega (arith, ap length whole)) in (
      whole ∙ sym (take_all (length rest) scope (omega (arith, ap length whole))),
      omega (arith, ap length whole),
      ap (λ (vs : List ℕ). cell_from (sizes_of c.args.sizes.now) c.args.cell vs (of (values_of c.empty-setting.result))) end,
      λ v h. absurd (both_ways true (sym h ∙ ap (λ (vs : List ℕ). has vs v) end) refl),
      λ v h. c.empty-setting.ensures v,
    )

-- the variable that is next from the end, with its size
module _ (sizes : Sizes) (scope : Scope) (cell : ℕ) (rest rest' : List ℕ) (v size : ℕ) (front : rest ≡ take (length rest) (scope_of scope)) (few : length rest ≤ length (scope_of scope))
    (step : rest ≡ rest' ++ v ∷ []) (low : cell < cells (sizes_of sizes) (scope_of scope)) (is : size ≡ get_or (sizes_of sizes) v 0) where
  at : v ≡ get_or (scope_of scope) (length rest - 1) 0
  at = back_value (scope_of scope) rest rest' v front few step

  some : 0 < length rest
  some = omega (arith, back_length (scope_of scope) rest rest' v front few step)

  size_is : size ≡ get_or (sizes_of sizes) (get_or (scope_of scope) (length rest - 1) 0) 0
  size_is = is ∙ ap (λ u. get_or (sizes_of sizes) u 0) at

  positive : 0 < size
  positive = omega (arith, size_is, some_size (sizes_of sizes) (scope_of scope) (length rest - 1) (omega arith) (omega (arith, some)))

  below : get_or (scope_of scope) (length rest - 1) 0 < 32
  below = scope_low scope (get_or (scope_of scope) (length rest - 1) 0) (getD_has (scope_of scope) (length rest - 1) (omega (arith, some)))

pub nonzero_rem-left : goal.nonzero_rem-left
nonzero_rem-left c =
    let l = c.loop-v in
    positive c.args.sizes.now c.args.scope.now c.args.cell l.v-iterator.iter.rest.now c.next.new.self.iter.rest.now c.in-Some.v.now c.size-size.result l.invariant.0 l.invariant.1 c.in-Some.ensures.steps c.requires c.size-size.ensures

pub overflow_cast-left : goal.overflow_cast-left
overflow_cast-left c =
    let l = c.loop-v in
    let some = positive c.args.sizes.now c.args.scope.now c.args.cell l.v-iterator.iter.rest.now c.next.new.self.iter.rest.now c.in-Some.v.now c.size-size.result l.invariant.0 l.invariant.1 c.in-Some.ensures.steps c.requires c.size-size.ensures in
    Fits-below {n = 255} tt (omega (arith, mod-lt l.left some, c.size-size.type_inv))

pub nonzero_div-left : goal.nonzero_div-left
nonzero_div-left c =
    let l = c.loop-v in
    positive c.args.sizes.now c.args.scope.now c.args.cell l.v-iterator.iter.rest.now c.next.new.self.iter.rest.now c.in-Some.v.now c.size-size.result l.invariant.0 l.invariant.1 c.in-Some.ensures.steps c.requires c.size-size.ensures

pub loop-v-preserved : goal.loop-v-preserved
loop-v-preserved c =
    let s = c.args.scope.now in
    let scope = scope_of s in
    let sizes = sizes_of c.args.sizes.now in
    let l = c.loop-v in
    let rest = l.v-iterator.iter.rest.now in
    let rest' = c.next.new.self.iter.rest.now in
    let v = c.in-Some.v.now in
    let size = c.size-size.result in
    let front = l.invariant.0 in
    let few = l.invariant.1 in
    let step = c.in-Some.ensures.steps in
    let back = back_length scope rest rest' v front few step in
    let shorter : length rest - 1 ≡ length rest' = omega (arith, back) in
    let low : get_or scope (length rest - 1) 0 < length (values_of l.setting) = omega (arith, below c.args.sizes.now s c.args.cell rest rest' v size front few step c.requires c.size-size.ensures, l.setting.long) in
    let is = size_is c.args.sizes.now s c.args.cell rest rest' v size front few step c.requires c.size-size.ensures in
    let some = positive c.args.sizes.now s c.args.cell rest rest' v size front few step c.requires c.size-size.ensures in
    let given = c.give.ensures ∙ ap (λ u. set (values_of l.setting) u (l.left % size)) (back_value scope rest rest' v front few step) in (
      back_front scope rest rest' v front few step,
      omega (arith, back),
      ap (λ i. cell_from sizes (l.left / size) (drop i scope) (of (values_of c.give.new.self))) (sym shorter)
          ∙ turn_cell sizes scope scope refl s.apart (length rest) (omega (arith, back)) few l.left c.args.cell size (values_of l.setting) _ low is some given l.invariant.2,
      λ u h. turn_ranged sizes scope scope refl s.apart (length rest) (omega (arith, back)) few l.left c.args.cell size (values_of l.setting) _ low is some given l.invariant.3 u (ap (λ i. has (drop i scope) u) shorter ∙ h),
      turn_others sizes scope scope refl s.apart (length rest) (omega (arith, back)) few l.left c.args.cell size (values_of l.setting) _ low is some given l.invariant.4,
    )

pub returns : goal.returns
returns c =
    let scope = scope_of c.args.scope.now in
    let sizes = sizes_of c.args.sizes.now in
    let l = c.loop-v in
    let end : length l.v-iterator.iter.rest.now ≡ 0 = c.in-None.ensures.steps.0 in
    record {
      place = tuple_all sizes scope l.left c.args.cell (of (values_of l.setting)) (ap (λ i. cell_from sizes l.left (drop i scope) (of (values_of l.setting))) (sym end) ∙ l.invariant.2) c.requires;
      ranged = λ v h. l.invariant.3 v (ap (λ i. has (drop i scope) v) end ∙ h);
      others = l.invariant.4;
    }
