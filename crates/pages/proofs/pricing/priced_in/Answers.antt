use Rattle.std.proofs.Common.{length, vec_items, sym, ap, ◌∙◌}
use Rattle.problems.specs.Outlines.{outline, problem}
use Rattle.variables.specs.Records.{values_of}
use Rattle.jobs.specs.Standings.{Standing}
use Rattle.pages.specs.Pages.{cost_page}
use Rattle.pages.proofs.Pricings.{outcome_new, loading_name, full_there, page_there, title_is}
use Rattle.pages.proofs.pricing.priced_in.Goals as goal

pub returns : goal.returns
returns c =
    let loaded = c.in_ok-upper.ensures in
    let d = loaded.0 in
    let o = outline c.shape-shape.result in
    let cells = length c.args.area.now in
    let area = c.load.new.area in
    let is = sym (outcome_new c.new-job.result _ c.args.text.now cells c.new-job.ensures) ∙ loaded.1 in
    let same = c.shape-shape.ensures ∙ ap (λ (x : Standing). x.outline) loaded.2.stands.standing_is in
    let there = ap (λ o. problem o area) c.shape-shape.ensures ∙ loaded.2.problem_is in
    let given = c.in_ok-setting.ensures in
    let page = c.in_ok-page.ensures in
    let title = ap (λ x. x.now) c.unwrap_or-title.ensures ∙ title_is c.name.result _ d.name (c.name.ensures ∙ loading_name c.args.text.now cells d is) in (
      d,
      is,
      full_there d o area c.args.values.now same there given.0 c.shape-shape.result.scoped,
      page_there d o area c.args.values.now same there given.0 c.shape-shape.result.scoped c.unwrap_or-title.result.now (values_of c.in_ok-setting.setting) page.0 c.in_ok-upper.upper
          (vec_items c.in_ok-page.page) title given.1 page.1 loaded.2.upper_is page.2
          ∙ ap (λ k. cost_page d k c.args.values.now) loaded.2.long,
    )
