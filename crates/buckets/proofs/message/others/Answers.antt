use Rattle.std.proofs.Common.{◌≡◌, ℕ, ◌+◌, ◌<◌, Bool, true, false, not, eqb, List, [], ◌∷◌, ◌++◌, length, get_or, drop, sym, ap, ◌∙◌, arith}
use Rattle.std.proofs.lemmas.List.{drop_more}
use Rattle.variables.specs.Records.{order_of, scope_of, sizes_of}
use Rattle.variables.specs.declared.refusal.Refusal.TheVariants.{Scope}
use Rattle.variables.specs.Rules.{barred}
use Rattle.floors.specs.Settings.{kept}
use Rattle.buckets.specs.Listed.{listed}
use Rattle.buckets.specs.Joining.{names}
use Rattle.buckets.proofs.Lows.{order_low}
use Rattle.buckets.proofs.Listing.{keeps, passes, turned}
use Rattle.buckets.proofs.Marking.{others_kept, not_barred, accepted}
use Rattle.buckets.proofs.message.others.Goals as goal
use Rattle.buckets.proofs.message.others.Goals.{then-has, else-has}

pub loop-u-init : goal.loop-u-init
loop-u-init c =
    let o = c.args.order.now in
    ap (λ (l : List ℕ). l ++ kept (λ u. get_or c.remove.new.self.named u false) (order_of o)) c.none-scope.ensures
    ∙ others_kept (order_of o) (order_low o) (names (listed c.args.members.now)) c.named-named.result.named c.remove.new.self.named c.args.variable c.named-named.result.long c.named-named.ensures c.remove.ensures

pub loop-u-preserved : goal.loop-u-preserved
loop-u-preserved c =
    let o = c.args.order.now in
    let order = order_of o in
    let whole = kept (λ u. not (eqb u c.args.variable)) (kept (names (listed c.args.members.now)) order) in
    let test : ℕ → Bool = λ u. get_or c.remove.new.self.named u false in
    let i = c.loop-u.u-index in
    let e = c.variables-u-items.ensures in
    let in' : i < length order = omega (arith, ap length e) in
    let u = get_or c.variables-u-items.result.now i 0 in
    let at : u ≡ get_or order i 0 = ap (λ (l : List ℕ). get_or l i 0) e in
    let next : drop i order ≡ u ∷ drop (i + 1) order = drop_more order i 0 in' ∙ ap (λ x. x ∷ drop (i + 1) order) (sym at) in
    let so_far = scope_of c.loop-u.scope in
    elim c.if-has.branch [
      | then-has w ↦
          let passing : test u ≡ true = sym c.has.ensures ∙ w.if-has.true in
          let turn : so_far ++ (u ∷ kept test (drop (i + 1) order)) ≡ whole = turned test order i u so_far whole next c.loop-u.invariant passing in
          let free : barred 5 (length (sizes_of c.args.sizes.now)) so_far u ≡ false = not_barred 5 _ so_far u _ whole turn c.requires in
          let more : scope_of w.push.new.self ≡ so_far ++ u ∷ [] = accepted _ Scope w.push.result _ _ free w.push.ensures in
          keeps test order i u so_far whole next c.loop-u.invariant passing _ (ap scope_of w.scope-is ∙ more)
      | else-has w ↦
          ap (λ (l : List ℕ). l ++ kept test (drop (i + 1) order)) (ap scope_of w.scope-is)
          ∙ passes test order i u so_far whole next c.loop-u.invariant (sym c.has.ensures ∙ w.if-has.false)
    ]
