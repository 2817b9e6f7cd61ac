-- The numbers of a heading that a program keeps.
use Rattle.std.specs.Prelude.{◌≡◌, ◌≤◌}
use Rattle.wcsp.specs.declared.heading.Heading.{Heading as Kept}
use Rattle.wcsp.specs.Layouts.{Heading}

-- they are those that were read, and the counts are within their limits
pub record Heads (kept : Kept) (h : Heading) : Type 0 where
  pub variables : kept.variables ≡ h.variables
  pub largest : kept.largest ≡ h.largest
  pub functions : kept.functions ≡ h.functions
  pub upper : kept.upper ≡ h.upper
  pub few_variables : kept.variables ≤ 32
  pub few_functions : kept.functions ≤ 64
