-- From what the parts of `prepare` did to what it promises.
use Rattle.std.proofs.Common.{◌≡◌, ℕ, ◌+◌, ◌≤◌, true, not, ◌&&◌, eqb, List, length, set, None, sym, ap, ◌∙◌, subst, arith}
use Rattle.std.proofs.lemmas.Bool.{and_parts, eqb-true, not-false, ltb-false, cond-false}
use Rattle.problems.specs.declared.shape.Shape.{Shape}
use Rattle.variables.specs.Lists.{known, distinct}
use Rattle.variables.specs.Refusals.{first_of}
use Rattle.variables.specs.Rules.{is_order, order_rows}
use Rattle.problems.specs.Outlines.{Outline, outline, ordered, problem}
use Rattle.variables.proofs.Rows.{no_row, rows_passed}
use Rattle.floors.specs.Rules.{Rules, Fills, frame}
use Rattle.search.specs.Searches.{start, ended}
use Rattle.jobs.specs.declared.stage.Stage.{Stage}
use Rattle.jobs.specs.declared.stage.Stage.TheVariants.{Running, Ended}
use Rattle.jobs.specs.declared.job.Job.{Job}
use Rattle.jobs.specs.Invariants.{sound}
use Rattle.jobs.specs.Standings.{Standing, standing, fresh, stage_at}
use Rattle.jobs.specs.Planning.{limited, source_rows, Prepared}
use Rattle.jobs.proofs.Sounds.{search_sound, start_goes_on, start_steady}
use Rattle.jobs.proofs.Forms.{first_size, write_before, write_behind}

-- a search that starts
module _ (before shape : Shape) (order : List ℕ) (arranged_is : outline shape ≡ ordered (outline before) order)
    (rows : first_of (order_rows (length (outline before).sizes) order) ≡ None) (some : 1 ≤ length (outline before).sizes) where
  has_order : is_order (length (outline shape).sizes) (outline shape).order ≡ true
  has_order = ap (λ (o : Outline). is_order (length o.sizes) o.order) arranged_is ∙ not-false _ (no_row _ _ rows)

  some_variable : 1 ≤ length (outline shape).sizes
  some_variable = omega (arith, some, ap (λ (o : Outline). length o.sizes) arranged_is)

  pub started_sound : (noted : ℕ) → (outline before).used ≤ noted → sound Running (outline shape) noted start ≡ true
  started_sound noted inside =
      let o = outline shape in
      let n = length o.sizes in
      let parts = and_parts (eqb (length o.order) n) (known n o.order && distinct o.order) has_order in
      let long = eqb-true (length o.order) n parts.0 in
      let named : 1 ≤ length o.order = omega (arith, long, some_variable) in
      let first = first_size shape.sizes o.order named (and_parts (known n o.order) (distinct o.order) parts.1).0 in
      let runs : stage_at o start ≡ Running = cond-false (ended o.sizes o.order start) Ended Running (start_goes_on o named first) in
      let room : o.used ≤ noted = omega (arith, inside, ap (λ (o : Outline). o.used) arranged_is) in
      ap (λ (stage : Stage). sound stage o noted start) (sym runs) ∙ search_sound o noted start some_variable room has_order (start_steady o named first)

-- a source that suits, with room for its cells
module _ {C S : Type 0} (R : Rules C S) (s : S) (o : Outline) (cells : ℕ) (rows : first_of (source_rows R s o cells) ≡ None) where
  pub suited : R.suits s (frame o) ≡ true
  suited = not-false (R.suits s (frame o)) (rows_passed (not (R.suits s (frame o))) _ _ rows).0

  pub roomy : o.used + R.room s (frame o) ≤ cells
  roomy = ltb-false cells (o.used + R.room s (frame o)) (no_row _ _ (rows_passed (not (R.suits s (frame o))) _ _ rows).1)

module _ {C S : Type 0} (R : Rules C S) (b a : Job C S) (area area' : List C) (order : List ℕ) (limit : C) (at : ℕ) (shape : Outline)
    (shaped : shape ≡ ordered (standing b).outline order) (there : standing a ≡ fresh Running shape (standing b).noted) (begins : at ≡ shape.used)
    (fills : Fills R shape b.source a.source (limited area limit) area' at) where
  pub prepared_is : Prepared R b a area area' order limit
  prepared_is =
      let o = ordered (standing b).outline order in
      let tables = b.plain.shape in
      let stands : standing a ≡ fresh Running o (standing b).noted = there ∙ ap (λ (o : Outline). fresh Running o (standing b).noted) shaped in
      let from : at ≡ (standing b).outline.used = begins ∙ ap (λ (o : Outline). o.used) shaped in
      let fills₁ = subst (λ (o : Outline). Fills R o b.source a.source (limited area limit) area' at) shaped fills in
      let fills₂ = subst (λ (k : ℕ). Fills R o b.source a.source (limited area limit) area' k) from fills₁ in
      record {
        standing_is = stands;
        fills = fills₂;
        problem_is = ap (λ (j : Standing). problem j.outline area') stands ∙ write_behind tables order (limited area limit) area' fills₂.before
            ∙ write_before tables order (set area 0 limit) 1 limit (omega arith) ∙ write_before tables order area 0 limit (omega arith);
      }
