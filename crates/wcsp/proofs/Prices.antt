-- A table read at a tuple: the cost that is listed last for it.
use Rattle.std.proofs.Common.{◌≡◌, ℕ, zero, suc, ◌<◌, true, cond, ◌&&◌, eqb, List, [], ◌∷◌, map, length, get_or, set, replicate, Some, Ok, sym, refl, ap, ◌∙◌, subst, inl, inr, arith}
use Rattle.std.proofs.lemmas.List.{get_or-set_same, get_or-set_other, length-set, length-replicate, get_or-replicate}
use Rattle.std.proofs.lemmas.Bool.{cases_Bool, cond-true, cond-false, and_parts, eqb-true, eq-eqb, both_ways}
use Rattle.costs.specs.Structures.{Structure}
use Rattle.variables.specs.Lists.{distinct}
use Rattle.variables.specs.Assignments.{along, cells, cell_from}
use Rattle.problems.specs.Problems.{Function, cost_at}
use Rattle.problems.specs.Records.{nth}
use Rattle.variables.specs.Rules.{fits}
use Rattle.problems.proofs.Bounds.{cell_below, fits_ranged}
use Rattle.words.specs.Words.{Word}
use Rattle.wcsp.specs.Layouts.{Listed, Entry, Document, document}
use Rattle.wcsp.specs.Tables.{amend, amended}
use Rattle.wcsp.specs.Described.{function_of}
use Rattle.wcsp.specs.Costs.{same, listed_cost, cost_of, Costs}
use Rattle.wcsp.proofs.Radix.{cell_apart}
use Rattle.wcsp.proofs.Sound.{AllFit, Sound, AllSound, document_sound}

same_true : (xs ys : List ℕ) → same xs ys ≡ true → xs ≡ ys
same_true [] [] h = refl
same_true [] (y ∷ ys) h = grind arith
same_true (x ∷ xs) [] h = grind arith
same_true (x ∷ xs) (y ∷ ys) h =
    let both = and_parts (eqb x y) (same xs ys) h in
    let first = eqb-true x y both.0 in
    let rest = same_true xs ys both.1 in
    cc

same_refl : (xs : List ℕ) → same xs xs ≡ true
same_refl [] = refl
same_refl (x ∷ xs) = ap (λ b. b && same xs xs) (eq-eqb x x refl) ∙ same_refl xs

module _ (stop : ℕ) (sizes scope tuple : List ℕ) (d : distinct scope ≡ true) (fit : fits sizes scope tuple ≡ true) (neutral : ℕ) where
  abbrev cell : List ℕ → ℕ
  cell t = cell_from sizes 0 scope (along scope t)

  -- one listing
  amend_there : (table : List ℕ) (one : Listed) → cell tuple < length table → fits sizes scope one.tuple ≡ true
      → get_or (amend sizes scope table one) (cell tuple) neutral ≡ cond (same one.tuple tuple) one.cost (get_or table (cell tuple) neutral)
  amend_there table one room good = elim (cases_Bool (same one.tuple tuple)) [
    | inl e ↦
        let at = ap cell (same_true one.tuple tuple e) in
        ap (λ k. get_or (set table k one.cost) (cell tuple) neutral) at ∙ get_or-set_same table (cell tuple) one.cost neutral room ∙ sym (cond-true (same one.tuple tuple) one.cost (get_or table (cell tuple) neutral) e)
    | inr n ↦
        let other : cell tuple ≡ cell one.tuple → ⊥ = λ k. both_ways (same one.tuple tuple) n (ap (same one.tuple) (cell_apart sizes scope tuple one.tuple d fit good k) ∙ same_refl one.tuple) in
        get_or-set_other table (cell one.tuple) (cell tuple) one.cost neutral other ∙ sym (cond-false (same one.tuple tuple) one.cost (get_or table (cell tuple) neutral) n)
  ]

  amended_there : (ls : List Listed) (table : List ℕ) → cell tuple < length table → AllFit stop sizes scope ls
      → get_or (amended sizes scope table ls) (cell tuple) neutral ≡ listed_cost (get_or table (cell tuple) neutral) ls tuple
  amended_there [] table room all = refl
  amended_there (one ∷ ls) table room all =
      amended_there ls (amend sizes scope table one) (omega (arith, length-set table (cell one.tuple) one.cost)) all.1
      ∙ ap (λ c. listed_cost c ls tuple) (amend_there table one room all.0)

entry_cost : (stop : ℕ) (K : Structure ℕ) (sizes : List ℕ) (e : Entry) (tuple : List ℕ) → Sound stop sizes e → fits sizes e.scope tuple ≡ true
    → cost_at K sizes (along e.scope tuple) (function_of sizes e) ≡ cost_of e tuple
entry_cost stop K sizes e tuple sound fit =
    let scope = e.scope in
    let n = cells sizes scope in
    let k = cell_from sizes 0 scope (along scope tuple) in
    let low : k < n = cell_below sizes scope (along scope tuple) (fits_ranged sizes scope tuple fit) in
    amended_there stop sizes scope tuple sound.0 fit K.neutral e.listed (replicate n e.usual) (omega (arith, length-replicate n e.usual)) sound.1
    ∙ ap (λ c. listed_cost c e.listed tuple) (get_or-replicate n k e.usual K.neutral low)

sound_nth : (stop : ℕ) (sizes : List ℕ) (es : List Entry) (k : ℕ) (e : Entry) (f : Function ℕ) → AllSound stop sizes es → nth es k ≡ Some e → nth (map (function_of sizes) es) k ≡ Some f → Sound stop sizes e × (f ≡ function_of sizes e)
sound_nth stop sizes [] k e f all h g = absurd (let z : ◌≡◌ {A = ℕ} 0 1 = cc in omega arith)
sound_nth stop sizes (x ∷ es) zero e f all h g =
    let is : x ≡ e = cc in
    (subst (Sound stop sizes) is all.0, cc)
sound_nth stop sizes (x ∷ es) (suc k) e f all h g = sound_nth stop sizes es k e f all.1 h g

-- the described functions cost what the text lists
pub document_costs : (stop area : ℕ) (words : List Word) (d : Document) → document stop area words ≡ Ok d → Costs d
document_costs stop area words d h K k e f tuple a b fit =
    let found = sound_nth stop d.sizes d.entries k e f (document_sound stop area words d h) a b in
    ap (cost_at K d.sizes (along e.scope tuple)) found.1 ∙ entry_cost stop K d.sizes e tuple found.0 fit
