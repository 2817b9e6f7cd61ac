-- A tuple that is not refused has a cell in its function's table, and so among the cells in use.
use Rattle.std.proofs.Common.{◌≡◌, ℕ, zero, suc, ◌+◌, ◌<◌, ◌≤◌, true, List, [], ◌∷◌, ◌++◌, length, take, drop, set, replicate, Some, None, sym, refl, ap, ◌∙◌, arith}
use Rattle.std.proofs.lemmas.Bool.{not-false, leb-false}
use Rattle.variables.specs.Refusals.{first_of}
use Rattle.variables.specs.Rules.{fits}
use Rattle.variables.specs.Assignments.{cells, along, cell_from}
use Rattle.problems.specs.Problems.{with_cost, with_function}
use Rattle.problems.specs.Records.{Placed, nth, laid_from}
use Rattle.problems.specs.Outlines.{Outline, scope_in, amending, cell_of, problem, entered}
use Rattle.variables.proofs.Rows.{rows_passed}
use Rattle.problems.proofs.Bounds.{cell_below, fits_ranged}
use Rattle.problems.proofs.Tables.{laid_inside, amended_functions, entered_functions}

nth_there : {A : Type 0} (xs : List A) (k : ℕ) → k < length xs → (x : A) × (nth xs k ≡ Some x)
nth_there [] k h = absurd (omega arith)
nth_there (x ∷ xs) zero h = (x, refl)
nth_there (x ∷ xs) (suc k) h = nth_there xs k (omega arith)

-- the function that is amended, and the tuple's cell in its table
pub record Target (o : Outline) (k : ℕ) (tuple : List ℕ) : Type 0 where
  pub function : Placed
  pub there : nth o.functions k ≡ Some function
  pub low : cell_from o.sizes 0 function.scope (along function.scope tuple) < cells o.sizes function.scope

pub target : (o : Outline) (k : ℕ) (tuple : List ℕ) → first_of (amending o k tuple) ≡ None → Target o k tuple
target o k tuple h =
    let first = rows_passed _ _ _ h in
    let second = rows_passed _ _ _ first.1 in
    let found = nth_there o.functions k (leb-false (length o.functions) k first.0) in
    let fit : fits o.sizes (scope_in (nth o.functions k)) tuple ≡ true = not-false _ second.0 in
    let fit' : fits o.sizes found.0.scope tuple ≡ true = ap (λ f. fits o.sizes (scope_in f) tuple) (sym found.1) ∙ fit in
    record {
      function = found.0;
      there = found.1;
      low = cell_below o.sizes found.0.scope _ (fits_ranged o.sizes found.0.scope tuple fit');
    }

module _ (o : Outline) (laid : laid_from o.sizes 2 o.functions o.used ≡ true) where
  pub amend_inside : (k : ℕ) (tuple : List ℕ) → first_of (amending o k tuple) ≡ None → cell_of o k tuple < o.used
  amend_inside k tuple h =
      let t = target o k tuple h in
      let inside = laid_inside o.sizes 2 o.used o.functions k t.function laid t.there in
      rw t.there (omega (arith, inside.1, t.low))

  pub amend_problem : {C : Type 0} (area : List C) (k : ℕ) (tuple : List ℕ) (c : C) → first_of (amending o k tuple) ≡ None
      → problem o (set area (cell_of o k tuple) c) ≡ with_cost (problem o area) k tuple c
  amend_problem area k tuple c h =
      let t = target o k tuple h in
      let functions = amended_functions o.sizes area tuple c 2 o.used o.functions k t.function laid t.there t.low in
      rw t.there (ap (λ fs. record { sizes = o.sizes; functions = fs; order = o.order }) functions)

  -- a function entered with one cost in every cell of its table
  pub enter_problem : {C : Type 0} (area : List C) (scope : List ℕ) (c : C) → o.used + cells o.sizes scope ≤ length area
      → problem (entered o scope) (take o.used area ++ (replicate (cells o.sizes scope) c ++ drop (o.used + cells o.sizes scope) area)) ≡ with_function (problem o area) scope c
  enter_problem area scope c room =
      ap (λ fs. record { sizes = o.sizes; functions = fs; order = o.order })
      (entered_functions o.sizes area 2 o.used o.functions (record { scope = scope; origin = 33; start = o.used }) c laid refl room)
