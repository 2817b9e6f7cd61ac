-- Values along an order, one more at the end.
use Rattle.std.proofs.Common.{◌≡◌, ℕ, ◌+◌, ◌<◌, true, false, List, [], ◌∷◌, ◌++◌, map, length, get_or, take, set, sym, refl, ap, ◌∙◌, ap₂}
use Rattle.std.proofs.lemmas.List.{get_or-set_same, get_or-set_other, take_more, map_push}
use Rattle.std.proofs.lemmas.Bool.{or_parts, eqb-false}
use Rattle.variables.specs.Lists.{has, distinct}
use Rattle.variables.specs.Assignments.{of}
use Rattle.variables.proofs.Tuples.{absent}

-- a value given to another variable
kept_values : (vs slots : List ℕ) (u x : ℕ) → has vs u ≡ false → map (of (set slots u x)) vs ≡ map (of slots) vs
kept_values [] slots u x h = refl
kept_values (v ∷ vs) slots u x h =
    let parts = or_parts _ (has vs u) h in
    ap₂ ◌∷◌ (get_or-set_other slots u v x 0 (eqb-false v u parts.0)) (kept_values vs slots u x parts.1)

-- the values of the first variables, with and without the next one's
pub next_value : (order slots : List ℕ) (k x : ℕ) → k < length order → distinct order ≡ true → get_or order k 0 < length slots
    → map (of (set slots (get_or order k 0) x)) (take (k + 1) order) ≡ map (of slots) (take k order) ++ x ∷ []
next_value order slots k x h apart room =
    let v = get_or order k 0 in
    ap (map (of (set slots v x))) (take_more order k 0 h) ∙ map_push (of (set slots v x)) (take k order) v
    ∙ ap₂ (λ (xs : List ℕ) (y : ℕ). xs ++ y ∷ []) (kept_values (take k order) slots v x (absent order k h apart)) (get_or-set_same slots v x 0 room)

pub last_value : (order slots : List ℕ) (k x : ℕ) → k < length order → distinct order ≡ true
    → map (of slots) (take (k + 1) order) ≡ map (of (set slots (get_or order k 0) x)) (take k order) ++ of slots (get_or order k 0) ∷ []
last_value order slots k x h apart =
    let v = get_or order k 0 in
    ap (map (of slots)) (take_more order k 0 h) ∙ map_push (of slots) (take k order) v
    ∙ ap (λ (xs : List ℕ). xs ++ of slots v ∷ []) (sym (kept_values (take k order) slots v x (absent order k h apart)))
