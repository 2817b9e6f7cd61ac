use Rattle.std.proofs.Common.{ℕ, get_or, refl, ◌∙◌, arith, below_more}
use Rattle.std.proofs.lemmas.List.{length-set, length-take}
use Rattle.variables.proofs.Cells.{size_slot}
use Rattle.variables.proofs.Slots.{copied, same_slots}
use Rattle.variables.proofs.plain.Setting.full.Goals as goal

pub loop-v-init : goal.loop-v-init
loop-v-init c = (refl, omega arith, λ v h. absurd (omega arith), λ v. same_slots {X = ℕ} 32 v 0)

pub loop-v-preserved : goal.loop-v-preserved
loop-v-preserved c =
    let v = c.loop-v.v in
    let xs = c.args.values.now in (
      length-set c.loop-v.slots v (get_or xs v 0) ∙ c.loop-v.invariant.0,
      c.loop-v.invariant.1,
      below_more _ _ c.loop-v.invariant.2 (rw (size_slot c.args.sizes.now v) (omega arith)),
      copied xs c.loop-v.slots v (omega arith) (omega (arith, length-take c.args.sizes.now.len c.args.sizes.now.sizes)) c.loop-v.invariant.3,
    )
