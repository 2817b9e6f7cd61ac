-- Reading a table of refusals.
use Rattle.std.proofs.Common.{◌≡◌, Bool, true, false, cond, Some, None, Option, refl, arith}
use Rattle.variables.specs.declared.refusal.Refusal.{Refusal}

-- a table of one row: that row holds, and gives its refusal; or it does not hold
pub only_row : (when : Bool) (s e : Refusal) → cond when (Some s) None ≡ Some e → (when ≡ true) × (e ≡ s)
only_row true s e h = (refl, cc)
only_row false s e h = grind arith

pub no_row : (when : Bool) (s : Refusal) → cond when (Some s) None ≡ None → when ≡ false
no_row true s h = grind arith
no_row false s h = refl

-- where no row holds, the first does not, and none of the others
pub rows_passed : (when : Bool) (s : Refusal) (rest : Option Refusal) → cond when (Some s) rest ≡ None → (when ≡ false) × (rest ≡ None)
rows_passed true s rest h = grind arith
rows_passed false s rest h = (refl, h)
