-- What is written into a message's table.
use Rattle.std.proofs.Common.{◌≡◌, ℕ, zero, suc, ◌+◌, ◌<◌, ◌≤◌, true, List, [], ◌∷◌, ◌++◌, map, length, get_or, take, drop, set, sym, refl, ap, ◌∙◌, ap₂, arith}
use mathlib.Core.Path.{fun_ext}
use Rattle.std.proofs.lemmas.List.{append_assoc, length-append, length-take-le, set_at, drop_more, take_more, take_at}
use Rattle.std.proofs.lemmas.Bool.{or_left, or_right}
use Rattle.std.proofs.lemmas.Bool.Decides.{nat_tests}
use Rattle.costs.specs.Structures.{Structure, total}
use Rattle.variables.specs.Lists.{has}
use Rattle.variables.specs.Assignments.{Assignment, cells, cell_from}
use Rattle.problems.specs.Problems.{Function, cost_at}
use Rattle.problems.specs.Records.{Placed, function_in, held}
use Rattle.problems.proofs.Bounds.{held_there}
use Rattle.problems.proofs.Tables.{same_part}
use Rattle.floors.specs.Leasts.{least_of}
use Rattle.floors.specs.Settings.{assign, values, upto, costs_at}
use Rattle.floors.specs.MiniBuckets.{mentions, tabulate, eliminated}
use Rattle.floors.specs.Scopes.{costs_agree}
use Rattle.floors.specs.Tables.{tabulate_at}
use Rattle.buckets.specs.Joining.{names}
use Rattle.buckets.specs.Tables.{Below}
use Rattle.buckets.proofs.Joining.{mentions_names}

-- one cell more of a table that is written into an area
pub written_more : {C : Type 0} (area table : List C) (s k : ℕ) (x : C) → s + k < length area → k < length table → x ≡ get_or table k x
    → set (take s area ++ (take k table ++ drop (s + k) area)) (s + k) x ≡ take s area ++ (take (k + 1) table ++ drop (s + (k + 1)) area)
written_more {C} area table s k x room l e =
    let front : List C = take s area ++ take k table in
    let long : length front ≡ s + k = length-append (take s area) (take k table) ∙ omega (arith, length-take-le s area (omega arith), length-take-le k table (omega arith)) in
    let rest : drop (s + k) area ≡ get_or area (s + k) x ∷ drop (s + k + 1) area = drop_more area (s + k) x room in
    let end : s + k + 1 ≡ s + (k + 1) = omega arith in
    let before : take s area ++ (take k table ++ drop (s + k) area) ≡ front ++ (get_or area (s + k) x ∷ drop (s + k + 1) area) =
    sym (append_assoc (take s area) (take k table) (drop (s + k) area)) ∙ ap (λ (r : List C). front ++ r) rest in
    let more : take (k + 1) table ≡ take k table ++ x ∷ [] = take_more table k x l ∙ ap (λ (y : C). take k table ++ y ∷ []) (sym e) in
    ap (λ (l : List C). set l (s + k) x) before ∙ set_at front (get_or area (s + k) x) (drop (s + k + 1) area) x (s + k) long
    ∙ append_assoc (take s area) (take k table) (x ∷ drop (s + k + 1) area)
    ∙ ap (λ (r : List C). take s area ++ r) (sym (append_assoc (take k table) (x ∷ []) (drop (s + k + 1) area)) ∙ ap₂ (λ (t : List C) (i : ℕ). t ++ drop i area) (sym more) end)

pub written_front : {C : Type 0} (area now : List C) (rest : List C) (s : ℕ) → s ≤ length area → now ≡ take s area ++ rest → take s now ≡ take s area
written_front area now rest s l e = ap (take s) e ∙ take_at (take s area) rest s (length-take-le s area l)

module _ {C : Type 0} (K : Structure C) (sizes scope : List ℕ) (v : ℕ) (members : List Placed) (inside : (u : ℕ) → names members u ≡ true → has (v ∷ scope) u ≡ true) (area : List C) where
  abbrev fs : List (Function C)
  fs = map (function_in sizes area) members

  mentioned : (u : ℕ) → mentions fs u ≡ true → has (v ∷ scope) u ≡ true
  mentioned u m = inside u (sym (mentions_names (function_in sizes area) (λ f. refl) members u) ∙ m)

  -- the message goes by its scope alone
  alone : (a b : Assignment) → ((u : ℕ) → has scope u ≡ true → b u ≡ a u) → eliminated K sizes v fs b ≡ eliminated K sizes v fs a
  alone a b same =
      ap (λ (g : ℕ → C). least_of K (map g (values sizes v))) (fun_ext (λ x. costs_agree K sizes fs (assign b v x) (assign a v x) (λ u m.
      grind (arith, nat_tests, mentioned u m, same u))))

  -- each member's cost at a tuple, read off an area that agrees below its table's end
  module _ (start : ℕ) (now : List C) (same : take start now ≡ take start area) (a : Assignment) (ranged : (u : ℕ) → has scope u ≡ true → a u < get_or sizes u 0) where
    member_at : (x : ℕ) → x < get_or sizes v 0 → (f : Placed) → ((u : ℕ) → has f.scope u ≡ true → has (v ∷ scope) u ≡ true) → f.start + cells sizes f.scope ≤ start
        → held K sizes now (assign a v x) f ≡ cost_at K sizes (assign a v x) (function_in sizes area f)
    member_at x l f in' low =
        held_there K sizes now f (assign a v x) (λ u h. grind (arith, nat_tests, in' u h, ranged u))
        ∙ ap (λ (t : List C). cost_at K sizes (assign a v x) (record { scope = f.scope; table = t })) (same_part now area start f.start (cells sizes f.scope) same low)

    members_at : (x : ℕ) → x < get_or sizes v 0 → (ms : List Placed) → ((u : ℕ) → names ms u ≡ true → has (v ∷ scope) u ≡ true) → Below sizes start ms
        → total K (map (held K sizes now (assign a v x)) ms) ≡ costs_at K sizes (assign a v x) (map (function_in sizes area) ms)
    members_at x l [] in' low = refl
    members_at x l (f ∷ ms) in' low =
        ap₂ K.combined (member_at x l f (λ u h. in' u (or_left (has f.scope u) (names ms u) h)) low.0)
        (members_at x l ms (λ u h. in' u (or_right (has f.scope u) (names ms u) h)) low.1)

    map_upto : (F G : ℕ → C) (n from : ℕ) → ((x : ℕ) → x < from + n → F x ≡ G x) → map F (upto from n) ≡ map G (upto from n)
    map_upto F G zero from h = refl
    map_upto F G (suc n) from h = ap₂ (λ (c : C) (l : List C). c ∷ l) (h from (omega arith)) (map_upto F G n (suc from) (λ x l. h x (omega arith)))

    pub least_here : Below sizes start members
        → least_of K (map (λ x. total K (map (held K sizes now (assign a v x)) members)) (values sizes v)) ≡ eliminated K sizes v fs a
    least_here low = ap (least_of K) (map_upto _ _ (get_or sizes v 0) 0 (λ x l. members_at x (omega arith) members inside low))

  -- the table's cell of a tuple
  pub table_at : (a : Assignment) (d : C) → ((u : ℕ) → has scope u ≡ true → a u < get_or sizes u 0) → (k : ℕ) → cell_from sizes 0 scope a ≡ k
      → get_or (tabulate sizes scope (eliminated K sizes v fs) (λ u. 0)) k d ≡ eliminated K sizes v fs a
  table_at a d ranged k e =
      ap (λ i. get_or (tabulate sizes scope (eliminated K sizes v fs) (λ u. 0)) i d) (sym e)
      ∙ tabulate_at sizes scope (eliminated K sizes v fs) (λ u. 0) a d ranged (λ b same. alone a b same)
