-- The functions' lines one after the other, and what they say of the problem.
use Rattle.std.proofs.Common.{◌≡◌, ℕ, zero, suc, ◌+◌, ◌<◌, ◌≤◌, true, List, [], ◌∷◌, ◌++◌, map, length, drop, Some, Option, sym, refl, ap, ◌∙◌, ap₂, append_assoc, append-nil, add-one, arith}
use Rattle.std.proofs.lemmas.List.{drop_all}
use Rattle.std.proofs.lemmas.Bool.{and_parts}
use Rattle.costs.specs.Kinds.{sum}
use Rattle.variables.specs.Assignments.{of, Full}
use Rattle.variables.specs.Rules.{proper}
use Rattle.problems.specs.Records.{Placed, nth, function_in, all_proper}
use Rattle.problems.proofs.Bounds.{held_there, full_ranged}
use Rattle.pages.specs.Lines.{function_line}
use Rattle.pages.specs.Records.{record_lines}
use Rattle.pages.specs.Pages.{function_lines}

-- lines that are made of records one after the other
module _ (line : ℕ → Option Placed → List ℕ) (lines : ℕ → List Placed → List ℕ)
    (first : (k : ℕ) (f : Placed) (fs : List Placed) → lines k (f ∷ fs) ≡ line k (Some f) ++ lines (k + 1) fs) (no_more : (k : ℕ) → lines k [] ≡ []) where
  lines_from : (at k : ℕ) (fs : List Placed) → k < length fs → lines at (drop k fs) ≡ line at (nth fs k) ++ lines (at + 1) (drop (k + 1) fs)
  lines_from at k [] h = absurd (omega arith)
  lines_from at zero (f ∷ fs) h = first at f fs
  lines_from at (suc k) (f ∷ fs) h = let ih = lines_from at k fs (omega arith) in rw (add-one (suc k)) (rw (add-one k) at ih)

  -- one line more on the page, and all of them
  pub lines_more : (page page' whole : List ℕ) (k : ℕ) (fs : List Placed) → k < length fs → page' ≡ page ++ line k (nth fs k)
      → page ++ lines k (drop k fs) ≡ whole → page' ++ lines (k + 1) (drop (k + 1) fs) ≡ whole
  lines_more page page' whole k fs h put before =
      ap (λ p. p ++ lines (k + 1) (drop (k + 1) fs)) put ∙ append_assoc page (line k (nth fs k)) (lines (k + 1) (drop (k + 1) fs))
      ∙ ap (λ rest. page ++ rest) (sym (lines_from k k fs h)) ∙ before

  pub lines_all : (page whole : List ℕ) (k : ℕ) (fs : List Placed) → length fs ≤ k → page ++ lines k (drop k fs) ≡ whole → page ≡ whole
  lines_all page whole k fs h before = sym (ap (λ rest. page ++ rest) (ap (lines k) (drop_all k fs h) ∙ no_more k) ∙ append-nil page) ∙ before

-- at a full setting the records' lines are the problem's
pub lines_there : (sizes area s : List ℕ) → Full sizes s → (k : ℕ) (fs : List Placed) → all_proper (length sizes) fs ≡ true
    → record_lines sizes area (of s) k fs ≡ function_lines sizes s k (map (function_in sizes area) fs)
lines_there sizes area s full k [] p = refl
lines_there sizes area s full k (f ∷ fs) p =
    let both = and_parts (proper (length sizes) f.scope) _ p in
    let here = held_there sum sizes area f (of s) (full_ranged sizes s f.scope full both.0) in
    ap₂ (λ (c : ℕ) (rest : List ℕ). function_line k f.scope c ++ rest) here (lines_there sizes area s full (k + 1) fs both.1)
