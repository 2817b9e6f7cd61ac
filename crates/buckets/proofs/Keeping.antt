-- A shape's functions and order meet what making their messages takes, and what is made is what the source keeps.
use Rattle.std.proofs.Common.{◌≡◌, ℕ, ◌+◌, ◌-◌, ◌≤◌, Bool, true, ◌&&◌, leb, List, ◌++◌, map, length, sym, ap, ◌∙◌, subst, ap₂, arith}
use Rattle.std.proofs.ByRecursion.{All-weaker}
use Rattle.std.proofs.lemmas.Bool.{and_parts, leb-true, cond-true}
use Rattle.costs.specs.Structures.{Structure}
use Rattle.variables.specs.Assignments.{cells}
use Rattle.problems.specs.Problems.{Function}
use Rattle.variables.specs.Records.{sizes_of, order_of}
use Rattle.problems.specs.Records.{Placed, placed_of, function_in}
use Rattle.problems.specs.Outlines.{Outline, outline, problem}
use Rattle.variables.specs.declared.plain.Sizes.{Sizes}
use Rattle.variables.specs.declared.plain.Order.{Order}
use Rattle.problems.specs.declared.shape.Shape.{Shape}
use Rattle.problems.proofs.Placements.{used_length}
use Rattle.floors.specs.Rules.{frame}
use Rattle.buckets.specs.declared.plain.Plan.{Plan}
use Rattle.buckets.specs.Going.{Able, Spacious, Gone}
use Rattle.buckets.specs.Made.{bucket_made, scopes_made, all_cells, placed_made}
use Rattle.buckets.specs.Processed.{scopes_of}
use Rattle.buckets.specs.Sources.{mini_suits, mini_room}
use Rattle.buckets.specs.Tables.{Below}
use Rattle.buckets.specs.Laying.{laid_below}
use Rattle.buckets.proofs.Making.{below_same}

pub narrow_from : (w : ℕ) (rest : Bool) → ((leb 1 w && leb w 6) && rest) ≡ true → w ≤ 6
narrow_from w rest h = leb-true w 6 (and_parts (leb 1 w) (leb w 6) (and_parts (leb 1 w && leb w 6) rest h).0).1

-- all that an outline's own parts say
module _ (shape : Shape) (w : ℕ) (narrow : w ≤ 6) where
  abbrev o : Outline
  o = outline shape

  able_here : Able o.sizes o.order w o.functions
  able_here = record {
    ordered = shape.ordered;
    narrow = narrow;
    scoped = shape.scoped;
    count = omega (arith, used_length placed_of shape.functions.len shape.functions.slots (omega (arith, shape.functions.long, shape.functions.few)), shape.functions.few);
  }

  pub functions_below : (at : ℕ) → o.used ≤ at → Below o.sizes at o.functions
  functions_below at behind =
      All-weaker (λ (f : Placed). f.start + cells o.sizes f.scope ≤ o.used) (λ (f : Placed). f.start + cells o.sizes f.scope ≤ at) (λ f h. omega (arith, h, behind)) o.functions
      (laid_below o.sizes 2 o.used o.functions shape.laid)

module _ (shape : Shape) (plan : Plan) (fs : List Placed) (sizes : plan.sizes ≡ shape.sizes) (order : plan.order ≡ shape.order) (same : fs ≡ (outline shape).functions) where
  -- a fact about a shape's parts is one about equal parts
  pub as_planned : (P : List ℕ → List ℕ → List Placed → Type 0) → P (outline shape).sizes (outline shape).order (outline shape).functions → P (sizes_of plan.sizes) (order_of plan.order) fs
  as_planned P h =
      subst (λ (s : Sizes). P (sizes_of s) (order_of plan.order) fs) (sym sizes)
      (subst (λ (x : Order). P (outline shape).sizes (order_of x) fs) (sym order) (subst (λ (l : List Placed). P (outline shape).sizes (outline shape).order l) (sym same) h))

  pub as_shaped : (P : List ℕ → List ℕ → List Placed → Type 0) → P (sizes_of plan.sizes) (order_of plan.order) fs → P (outline shape).sizes (outline shape).order (outline shape).functions
  as_shaped P h =
      subst (λ (s : Sizes). P (sizes_of s) (outline shape).order (outline shape).functions) sizes
      (subst (λ (x : Order). P (sizes_of plan.sizes) (order_of x) (outline shape).functions) order (subst (λ (l : List Placed). P (sizes_of plan.sizes) (order_of plan.order) l) same h))

  pub able_planned : (w : ℕ) → w ≤ 6 → Able (sizes_of plan.sizes) (order_of plan.order) w fs
  able_planned w narrow = as_planned (λ s x l. Able s x w l) (able_here shape w narrow)

  pub spacious_planned : (w at cells : ℕ) → w ≤ 6 → (outline shape).used ≤ at → mini_suits w (frame (outline shape)) ≡ true → at + mini_room w (frame (outline shape)) ≤ cells
      → Spacious (sizes_of plan.sizes) (order_of plan.order) w fs at cells
  spacious_planned w at cells narrow behind suited there =
      as_planned (λ s x l. Spacious s x w l at cells) (record {
        below = functions_below shape w narrow at behind;
        room = omega (arith, there, cond-true (mini_suits w (frame (outline shape))) (all_cells (outline shape).sizes (scopes_made (outline shape).order w (scopes_of (outline shape).functions) (length (outline shape).order))) 0 suited);
      })

-- what is made, said of the outline
module _ {C : Type 0} (K : Structure C) (shape : Shape) (w : ℕ) (narrow : w ≤ 6) (area area' : List C) (at : ℕ) (behind : (outline shape).used ≤ at) (rs : List Placed) (reach : List ℕ) (end : ℕ)
    (gone : Gone K (outline shape).sizes (outline shape).order w (outline shape).functions area at 0 rs reach area' end) where
  all : length (outline shape).order - 0 ≡ length (outline shape).order
  all = omega arith

  pub kept_records : rs ≡ (outline shape).functions ++ placed_made (outline shape).sizes (outline shape).order w (scopes_of (outline shape).functions) at (length (outline shape).order)
  kept_records = gone.records ∙ ap (λ k. (outline shape).functions ++ placed_made (outline shape).sizes (outline shape).order w (scopes_of (outline shape).functions) at k) all

  pub kept_tables : map (function_in (outline shape).sizes area') (placed_made (outline shape).sizes (outline shape).order w (scopes_of (outline shape).functions) at (length (outline shape).order))
      ≡ bucket_made K (outline shape).sizes (outline shape).order w (problem (outline shape) area').functions (length (outline shape).order)
  kept_tables =
      ap (λ k. map (function_in (outline shape).sizes area') (placed_made (outline shape).sizes (outline shape).order w (scopes_of (outline shape).functions) at k)) (sym all)
      ∙ gone.tables
      ∙ ap₂ (λ (fs : List (Function C)) (k : ℕ). bucket_made K (outline shape).sizes (outline shape).order w fs k)
      (sym (below_same (outline shape).sizes area area' at gone.before (outline shape).functions (functions_below shape w narrow at behind))) all
