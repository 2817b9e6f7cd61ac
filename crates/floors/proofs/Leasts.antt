-- The least of several costs, as a loop finds it; the least cost of a function, variable by variable.
use Rattle.std.proofs.Common.{◌≡◌, ℕ, zero, suc, ◌+◌, ◌-◌, ◌<◌, ◌≤◌, Bool, true, false, cond, List, [], ◌∷◌, ◌++◌, map, length, get_or, take, drop, set, Some, None, Option, unwrap_or, sym, refl, ap, ◌∙◌, inl, inr, add-one, arith}
use mathlib.Core.Path.{fun_ext}
use Rattle.std.proofs.lemmas.List.{get_or-set_same, get_or-set_other, get_or_past, take_all, length-drop}
use Rattle.std.proofs.lemmas.Bool.{cases_Bool, cases_eq, cases_lt, eq-eqb, ne_eqb, both_ways}
use Rattle.std.proofs.lemmas.Bool.Decides.{nat_tests}
use Rattle.costs.specs.Structures.{Structure, Lawful}
use Rattle.variables.specs.Lists.{has}
use Rattle.variables.specs.Assignments.{Assignment, of}
use Rattle.floors.specs.Leasts.{least_of}
use Rattle.floors.specs.Settings.{assign, upto, values, kept}
use Rattle.floors.specs.Floors.{cheapest}
use Rattle.floors.specs.Sources.{listed}
use Rattle.floors.specs.Scopes.{upto_has, kept_has, has_kept}
use Rattle.floors.proofs.Numbers.{lesser_assoc}

-- variables that are given, by their places

pub upto_below : (n from v : ℕ) → has (upto from n) v ≡ true → v < from + n
upto_below zero from v h = grind arith
upto_below (suc n) from v h = grind (arith, nat_tests, upto_below n (suc from) v)

module _ (p : ℕ → Bool) (n v : ℕ) where
  pub kept_here : v < n → p v ≡ has (kept p (upto 0 n)) v
  kept_here h = elim (cases_Bool (p v)) [
    | inl t ↦ t ∙ sym (has_kept p (upto 0 n) v t (upto_has n 0 v (omega arith) (omega arith)))
    | inr t ↦ elim (cases_Bool (has (kept p (upto 0 n)) v)) [
      | inl e ↦ absurd (both_ways (p v) t (kept_has p (upto 0 n) v e).0)
      | inr e ↦ t ∙ sym e
    ]
  ]

  pub kept_past : n ≤ v → false ≡ has (kept p (upto 0 n)) v
  kept_past h = elim (cases_Bool (has (kept p (upto 0 n)) v)) [
    | inl e ↦ absurd (omega (arith, upto_below n 0 v (kept_has p (upto 0 n) v e).1))
    | inr e ↦ sym e
  ]

-- a value given in a setting
pub gives : (slots sizes : List ℕ) (v c : ℕ) → c < get_or sizes v 0 → length sizes ≤ length slots → of (set slots v c) ≡ assign (of slots) v c
gives slots sizes v c h long = fun_ext (λ u. elim (cases_eq u v) [
  | inl e ↦
      let there : v < length slots = elim (cases_lt v (length sizes)) [ inl k ↦ omega arith | inr k ↦ absurd (omega (arith, get_or_past sizes v 0 k)) ] in
      ap (get_or (set slots v c) u) refl ∙ rw e (get_or-set_same slots v c 0 there) ∙ sym (ap (λ b. cond b c (of slots u)) (eq-eqb u v e))
  | inr n ↦ get_or-set_other slots v u c 0 n ∙ sym (ap (λ b. cond b c (of slots u)) (ne_eqb u v n))
])

module _ {C : Type 0} {K : Structure C} (L : Lawful K) where
  -- one cost more, put together with the least so far
  least_more : (best : Option C) (c : C) (cs : List C) → least_of K (least_of K (listed best ++ c ∷ []) ∷ cs) ≡ least_of K (listed best ++ c ∷ cs)
  least_more None c cs = refl
  least_more (Some b) c [] = refl
  least_more (Some b) c (d ∷ ds) = lesser_assoc L b c (least_of K (d ∷ ds))

  module _ (G : ℕ → C) (n : ℕ) where
    -- the least so far, and that of the values from k on
    abbrev pub onward : Option C → ℕ → C
    onward best k = least_of K (listed best ++ map G (upto k (n - k)))

    pub onward_first : onward None 0 ≡ least_of K (map G (upto 0 n))
    onward_first = let all : n - 0 ≡ n = omega arith in ap (λ i. least_of K (map G (upto 0 i))) all

    pub onward_next : (best : Option C) (k : ℕ) (r : C) (whole : C) → k < n → r ≡ least_of K (listed best ++ G k ∷ []) → onward best k ≡ whole → onward (Some r) (k + 1) ≡ whole
    onward_next best k r whole h is before =
        let more : n - k ≡ suc (n - (k + 1)) = omega arith in
        let at : k + 1 ≡ suc k = add-one k in
        ap (λ i. least_of K (r ∷ map G (upto i (n - (k + 1))))) at
        ∙ ap (λ (c : C). least_of K (c ∷ map G (upto (suc k) (n - (k + 1))))) is
        ∙ least_more best (G k) (map G (upto (suc k) (n - (k + 1))))
        ∙ sym (ap (λ i. least_of K (listed best ++ map G (upto k i))) more) ∙ before

    pub onward_last : (best : Option C) (k : ℕ) (whole : C) → n ≤ k → onward best k ≡ whole → unwrap_or best K.neutral ≡ whole
    onward_last None k whole h before = let none : n - k ≡ 0 = omega arith in sym (ap (λ i. least_of K (map G (upto k i))) none) ∙ before
    onward_last (Some b) k whole h before = let none : n - k ≡ 0 = omega arith in sym (ap (λ i. least_of K (b ∷ map G (upto k i))) none) ∙ before

-- the least cost of a function, with its next variable given or chosen

tail_all : (vs : List ℕ) → take (length vs - 1) (drop 1 vs) ≡ drop 1 vs
tail_all vs = take_all (length vs - 1) (drop 1 vs) (omega (arith, length-drop 1 vs))

module _ {C : Type 0} {K : Structure C} (L : Lawful K) (sizes given : List ℕ) (F : Assignment → C) where
  passed : (vs : List ℕ) (a : Assignment) → 0 < length vs → true ≡ has given (get_or vs 0 0) → cheapest K sizes given (drop 1 vs) F a ≡ cheapest K sizes given vs F a
  passed [] a h t = absurd (omega arith)
  passed (v ∷ vs) a h t = rw (← t)

  chosen : (vs : List ℕ) (a : Assignment) → 0 < length vs → false ≡ has given (get_or vs 0 0)
      → least_of K (map (λ c. cheapest K sizes given (drop 1 vs) F (assign a (get_or vs 0 0) c)) (values sizes (get_or vs 0 0))) ≡ cheapest K sizes given vs F a
  chosen [] a h t = absurd (omega arith)
  chosen (v ∷ vs) a h t = rw (← t)

  module _ (vs slots : List ℕ) where
    -- the values of variable v that are still to come lead on to the least
    abbrev pub Onward : List ℕ → ℕ → Option C → ℕ → Type 0
    Onward rest v best k = onward L (λ c. cheapest K sizes given rest F (assign (of slots) v c)) (get_or sizes v 0) best k ≡ cheapest K sizes given vs F (of slots)

    pub least_none : (r : C) → length vs < 1 → r ≡ F (of slots) → r ≡ cheapest K sizes given vs F (of slots)
    least_none r h is = is ∙ none vs (omega arith)
      where
        none : (us : List ℕ) → length us ≡ 0 → F (of slots) ≡ cheapest K sizes given us F (of slots)
        none [] e = refl
        none (u ∷ us) e = absurd (omega arith)

    pub least_passed : (r : C) → 1 ≤ length vs → true ≡ has given (get_or vs 0 0) → r ≡ cheapest K sizes given (take (length vs - 1) (drop 1 vs)) F (of slots) → r ≡ cheapest K sizes given vs F (of slots)
    least_passed r some t is =
        is ∙ ap (λ us. cheapest K sizes given us F (of slots)) (tail_all vs) ∙ passed vs (of slots) some t

    pub least_begun : 1 ≤ length vs → false ≡ has given (get_or vs 0 0) → Onward (take (length vs - 1) (drop 1 vs)) (get_or vs 0 0) None 0
    least_begun some t =
        let v = get_or vs 0 0 in
        onward_first L (λ c. cheapest K sizes given (take (length vs - 1) (drop 1 vs)) F (assign (of slots) v c)) (get_or sizes v 0)
        ∙ ap (λ us. least_of K (map (λ c. cheapest K sizes given us F (assign (of slots) v c)) (values sizes v))) (tail_all vs)
        ∙ chosen vs (of slots) some t

    pub least_again : (rest : List ℕ) (v : ℕ) (best : Option C) (k : ℕ) (slots' : List ℕ) (cost r : C) → k < get_or sizes v 0 → length sizes ≤ length slots → slots' ≡ set slots v k
        → cost ≡ cheapest K sizes given rest F (of slots') → r ≡ least_of K (listed best ++ cost ∷ []) → Onward rest v best k → Onward rest v (Some r) (k + 1)
    least_again rest v best k slots' cost r h long e is least before =
        let here : cost ≡ cheapest K sizes given rest F (assign (of slots) v k) = is ∙ ap (λ us. cheapest K sizes given rest F (of us)) e ∙ ap (cheapest K sizes given rest F) (gives slots sizes v k h long) in
        onward_next L (λ c. cheapest K sizes given rest F (assign (of slots) v c)) (get_or sizes v 0) best k r _ h (least ∙ ap (λ (c : C). least_of K (listed best ++ c ∷ [])) here) before

    pub least_ended : (rest : List ℕ) (v : ℕ) (best : Option C) (k : ℕ) (r neutral : C) → get_or sizes v 0 ≤ k → neutral ≡ K.neutral → r ≡ unwrap_or best neutral → Onward rest v best k → r ≡ cheapest K sizes given vs F (of slots)
    least_ended rest v best k r neutral h e is before =
        is ∙ ap (unwrap_or best) e ∙ onward_last L (λ c. cheapest K sizes given rest F (assign (of slots) v c)) (get_or sizes v 0) best k _ h before
