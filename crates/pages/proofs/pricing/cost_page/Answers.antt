use Rattle.std.proofs.Common.{ℕ, ◌∙◌, subst}
use Rattle.wcsp.specs.Loads.{loading}
use Rattle.pages.specs.Pages.{Priced}
use Rattle.pages.proofs.pricing.cost_page.Goals as goal

pub returns : goal.returns
returns c =
    let long = c.as_mut_slice.ensures.len ∙ c.in_ok-area.ensures.len in
    subst (λ (n : ℕ). Priced (loading c.args.text.now n) n c.args.values.now c.priced_in.result) long c.priced_in.ensures
