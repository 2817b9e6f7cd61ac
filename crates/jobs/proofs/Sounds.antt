-- What a job's own record always says, and what a new one has to show.
use Rattle.std.proofs.Common.{◌≡◌, ℕ, ◌<◌, ◌≤◌, Bool, true, false, cond, not, ◌&&◌, ◌||◌, leb, length, sym, refl, ◌∙◌, arith}
use Rattle.std.proofs.lemmas.Bool.{and_parts, and_from, or_right, leb-true, le-leb, lt-ltb, ne_eqb, not-true, not_from_false, cond_both, cond-true, cond-false}
use Rattle.variables.specs.Rules.{is_order}
use Rattle.problems.specs.Outlines.{Outline}
use Rattle.search.specs.Searches.{Spot, start, ended, steady, size_at}
use Rattle.jobs.specs.declared.stage.Stage.{Stage}
use Rattle.jobs.specs.declared.stage.Stage.TheVariants.{Closed, Draft, Running, Ended}
use Rattle.jobs.specs.Stages.{is_closed, is_draft, is_ended}
use Rattle.jobs.specs.Invariants.{sound, under_way}
use Rattle.jobs.specs.Standings.{stage_at}

other : (x y : Bool) → x ≡ false → (x || y) ≡ true → y ≡ true
other true y e h = grind arith
other false y e h = h

-- unless it is closed, the tables lie in the area
pub lies_inside : (stage : Stage) (o : Outline) (noted : ℕ) (s : Spot) → sound stage o noted s ≡ true → (is_closed stage || leb o.used noted) ≡ true
lies_inside Closed o noted s h = refl
lies_inside Draft o noted s h = (and_parts (leb o.used noted) _ (and_parts (leb 1 (length o.sizes)) _ h).1).0
lies_inside Running o noted s h = (and_parts (leb o.used noted) _ (and_parts (leb 1 (length o.sizes)) _ h).1).0
lies_inside Ended o noted s h = (and_parts (leb o.used noted) _ (and_parts (leb 1 (length o.sizes)) _ h).1).0

-- a record that is not closed
module _ (stage : Stage) (o : Outline) (noted : ℕ) (s : Spot) (opened : is_closed stage ≡ false) (is : sound stage o noted s ≡ true) where
  parts : (leb 1 (length o.sizes) && (leb o.used noted && (is_draft stage || under_way stage o s))) ≡ true
  parts = other (is_closed stage) _ opened is

  pub some_variable : 1 ≤ length o.sizes
  some_variable = leb-true 1 (length o.sizes) (and_parts (leb 1 (length o.sizes)) _ parts).0

  rest : (leb o.used noted && (is_draft stage || under_way stage o s)) ≡ true
  rest = (and_parts (leb 1 (length o.sizes)) _ parts).1

  pub tables_inside : o.used ≤ noted
  tables_inside = leb-true o.used noted (and_parts (leb o.used noted) _ rest).0

  -- and no draft
  module _ (begun : is_draft stage ≡ false) where
    going : under_way stage o s ≡ true
    going = other (is_draft stage) _ begun (and_parts (leb o.used noted) _ rest).1

    pub has_order : is_order (length o.sizes) o.order ≡ true
    has_order = (and_parts (is_order (length o.sizes) o.order) _ going).0

    search_is : (steady o.sizes o.order s && cond (is_ended stage) (ended o.sizes o.order s) (not (ended o.sizes o.order s))) ≡ true
    search_is = (and_parts (is_order (length o.sizes) o.order) _ going).1

    pub is_steady : steady o.sizes o.order s ≡ true
    is_steady = (and_parts (steady o.sizes o.order s) _ search_is).0

    pub has_ended : is_ended stage ≡ true → ended o.sizes o.order s ≡ true
    has_ended e = sym (cond-true _ _ _ e) ∙ (and_parts (steady o.sizes o.order s) _ search_is).1

    pub goes_on : is_ended stage ≡ false → ended o.sizes o.order s ≡ false
    goes_on e = not-true (ended o.sizes o.order s) (sym (cond-false _ _ _ e) ∙ (and_parts (steady o.sizes o.order s) _ search_is).1)

module _ (o : Outline) (noted : ℕ) (s : Spot) (some : 1 ≤ length o.sizes) (inside : o.used ≤ noted) where
  pub draft_sound : sound Draft o noted s ≡ true
  draft_sound = and_from _ _ (le-leb 1 (length o.sizes) some) (and_from _ _ (le-leb o.used noted inside) refl)

  -- a search runs until it has ended
  pub search_sound : is_order (length o.sizes) o.order ≡ true → steady o.sizes o.order s ≡ true → sound (stage_at o s) o noted s ≡ true
  search_sound order still =
      let e : Bool = ended o.sizes o.order s in
      let way = λ (b : Bool) (h : b ≡ true). and_from (is_order (length o.sizes) o.order) _ order (and_from (steady o.sizes o.order s) b still h) in
      let front = λ (b : Bool) (h : b ≡ true). and_from _ _ (le-leb 1 (length o.sizes) some) (and_from (leb o.used noted) b (le-leb o.used noted inside) h) in
      cond_both e Ended Running (λ stage. sound stage o noted s ≡ true) (λ h. front _ (way e h)) (λ h. front _ (way (not e) (not_from_false e h)))

-- a search that is at its start has not ended
module _ (o : Outline) (some : 1 ≤ length o.order) (sized : 0 < size_at o.sizes o.order 0) where
  pub start_goes_on : ended o.sizes o.order start ≡ false
  start_goes_on = ne_eqb 0 (size_at o.sizes o.order 0) (λ e. omega arith)

  pub start_steady : steady o.sizes o.order start ≡ true
  start_steady = and_from _ _ (lt-ltb 0 (length o.order) some) (or_right _ _ (lt-ltb 0 (size_at o.sizes o.order 0) sized))
