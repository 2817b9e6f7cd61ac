-- What is left to combine once the last k buckets have been processed: what lies in earlier buckets, entered or made.
use Rattle.std.proofs.Common.{◌≡◌, ℕ, zero, suc, ◌+◌, ◌-◌, ◌<◌, ◌≤◌, Bool, true, false, not, ◌||◌, eqb, leb, List, [], ◌∷◌, ◌++◌, map, length, get_or, take, drop, sym, refl, ap, ◌∙◌, ap₂, inl, inr, arith}
use Rattle.std.specs.List.{AllByRecursion}
use Rattle.std.proofs.lemmas.List.{append-nil, append_assoc, length-append, take_all, take-append-le, drop_all, drop_more}
use Rattle.std.proofs.lemmas.Bool.{cases_Bool, cases_eq, cases_lt, or_right, le-leb, eqb-true, eqb-false}
use Rattle.std.proofs.lemmas.Bool.Decides.{nat_tests}
use Rattle.costs.specs.Structures.{Structure, Lawful}
use Rattle.variables.specs.Lists.{has}
use Rattle.variables.specs.Assignments.{along}
use Rattle.problems.specs.Problems.{Function, Problem}
use Rattle.floors.specs.Settings.{kept, costs_at}
use Rattle.floors.specs.MiniBuckets.{mentions, split_from, message, mini_bucket_floor, left, made}
use Rattle.floors.specs.ByNumber.{place_from, bucket_of, lies_in, bucket_messages, bucket_left}
use Rattle.floors.specs.Shapes.{Shaped}
use Rattle.floors.specs.Scopes.{Within, within_head, within_tail, has_first}
use Rattle.floors.specs.Eliminations.{split_within, messages_within, left_within}
use Rattle.floors.proofs.Numbers.{bucket_same, left_same, lies_same, kept_same}
use Rattle.buckets.specs.Made.{bucket_made}
use Rattle.buckets.proofs.Filters.{kept_append, kept_kept, kept_all, place_holds, bucket_most}
use Rattle.floors.specs.Covers.{covered}

-- the place of a scope's variable, and the bucket of a scope

place_below : (order scope : List ℕ) (u : ℕ) → has scope u ≡ true → place_from 1 order u ≤ bucket_of order scope
place_below order [] u h = grind arith
place_below order (v ∷ vs) u h =
    elim (cases_Bool (eqb v u)) [
      | inl e ↦ omega (arith, ap (place_from 1 order) (eqb-true v u e))
      | inr e ↦ omega (arith, place_below order vs u (grind arith))
    ]

bucket_below : (order : List ℕ) (q : ℕ) (scope : List ℕ) → ((u : ℕ) → has scope u ≡ true → place_from 1 order u ≤ q) → bucket_of order scope ≤ q
bucket_below order q [] h = omega arith
bucket_below order q (v ∷ vs) h = omega (arith, h v (has_first v vs), bucket_below order q vs (λ u k. h u (or_right (eqb v u) (has vs u) k)))

early : (order : List ℕ) (q u : ℕ) → has order u ≡ true → place_from 1 order u ≤ suc q → eqb (get_or order q 0) u ≡ false → place_from 1 order u ≤ q
early order q u h l other =
    elim (cases_eq (place_from 1 order u) (suc q)) [
      | inl e ↦
          let i : place_from 1 order u - 1 ≡ q = omega arith in
          absurd (eqb-false (get_or order q 0) u other (ap (λ k. get_or order k 0) (sym i) ∙ (place_holds 0 order u h).1))
      | inr n ↦ omega arith
    ]

module _ {C : Type 0} where
  all_early : (order : List ℕ) (q : ℕ) (fs : List (Function C)) → Within (λ u. place_from 1 order u ≤ q) fs → AllByRecursion (λ f. leb (bucket_of order f.scope) q ≡ true) fs
  all_early order q [] h = tt
  all_early order q (f ∷ fs) h = (le-leb _ q (bucket_below order q f.scope (within_head _ f fs h)), all_early order q fs (within_tail _ f fs h))

  lying_within : (order : List ℕ) (p : ℕ) (fs : List (Function C)) → Within (λ u. place_from 1 order u ≤ p) (kept (lies_in order p) fs)
  lying_within order p [] v m = grind arith
  lying_within order p (f ∷ fs) v m =
      elim (cases_Bool (lies_in order p f)) [
        | inl e ↦ let here = place_below order f.scope v in let at = eqb-true _ _ e in let later = lying_within order p fs v in split (has f.scope v) (mentions (kept (lies_in order p) fs) v) (rw e at m) (λ k. omega (arith, here k)) later
        | inr e ↦ lying_within order p fs v (rw e at m)
      ]
    where
      split : (a b : Bool) {P : Type 0} → (a || b) ≡ true → (a ≡ true → P) → (b ≡ true → P) → P
      split true b h f g = f refl
      split false b h f g = g h

module _ {C : Type 0} {K : Structure C} (L : Lawful K) (sizes order : List ℕ) (w : ℕ) where
  -- a bucket's messages lie in earlier buckets
  messages_early : (q : ℕ) (fs : List (Function C)) → AllByRecursion (λ f. leb (bucket_of order f.scope) q ≡ true) (bucket_messages K sizes order w (suc q) fs)
  messages_early q fs =
      let back : suc q - 1 ≡ q = omega arith in
      let lying = kept (lies_in order (suc q)) fs in
      let minis = split_from order w [] lying in
      let Q : ℕ → Type 0 = λ u. place_from 1 order u ≤ suc q in
      let inside = split_within order w Q [] lying tt (lying_within order (suc q) fs) in
      rw back
      (all_early order q (map (message K sizes order (get_or order q 0)) minis)
      (λ u m. let k = messages_within L sizes order Q (get_or order q 0) minis inside u m in early order q u k.0 k.1 k.2))

  module _ (fs : List (Function C)) where
    pub left_kept : (k : ℕ) → k ≤ length order
        → bucket_left K sizes order w fs k ≡ kept (λ f. leb (bucket_of order f.scope) (length order - k)) (fs ++ bucket_made K sizes order w fs k)
    left_kept zero l =
        let all : AllByRecursion (λ (f : Function C). leb (bucket_of order f.scope) (length order - 0) ≡ true) fs = everywhere fs in
        sym (ap (kept (λ f. leb (bucket_of order f.scope) (length order - 0))) (append-nil fs) ∙ kept_all _ fs all)
      where
        everywhere : (gs : List (Function C)) → AllByRecursion (λ (f : Function C). leb (bucket_of order f.scope) (length order - 0) ≡ true) gs
        everywhere [] = tt
        everywhere (g ∷ gs) = (le-leb _ _ (omega (arith, bucket_most order g.scope)), everywhere gs)
    left_kept (suc k) l =
        let q : ℕ = length order - suc k in
        let p : length order - k ≡ suc q = omega arith in
        let all : List (Function C) = fs ++ bucket_made K sizes order w fs k in
        let below : ℕ → Function C → Bool = λ n f. leb (bucket_of order f.scope) n in
        let rest : List (Function C) = kept (below (suc q)) all in
        let ih : bucket_left K sizes order w fs k ≡ rest = left_kept k (omega arith) ∙ ap (λ n. kept (below n) all) p in
        let others : kept (λ f. not (lies_in order (suc q) f)) rest ≡ kept (below q) all =
        kept_kept (λ f. not (lies_in order (suc q) f)) (below (suc q)) (below q) (λ f. grind (arith, nat_tests)) all in
        let lying : kept (lies_in order (suc q)) rest ≡ kept (lies_in order (suc q)) all =
        kept_kept (lies_in order (suc q)) (below (suc q)) (lies_in order (suc q)) (λ f. grind (arith, nat_tests)) all in
        let new : List (Function C) = bucket_messages K sizes order w (suc q) all in
        let same : bucket_messages K sizes order w (suc q) rest ≡ new = ap (λ (l : List (Function C)). map (message K sizes order (get_or order (suc q - 1) 0)) (split_from order w [] l)) lying in
        ap₂ (λ n (l : List (Function C)). kept (λ f. not (lies_in order n f)) l ++ bucket_messages K sizes order w n l) p ih
        ∙ ap₂ ◌++◌ others (same ∙ sym (kept_all (below q) new (messages_early q all)))
        ∙ sym (kept_append (below q) all new)
        ∙ ap (kept (below q)) (append_assoc fs (bucket_made K sizes order w fs k) new)
        ∙ ap (λ n. kept (below q) (fs ++ (bucket_made K sizes order w fs k ++ bucket_messages K sizes order w n all))) (sym p)

    made_longer : (k n : ℕ) → k ≤ n → length (bucket_made K sizes order w fs k) ≤ length (bucket_made K sizes order w fs n)
    made_longer k zero l = let z : k ≡ 0 = omega arith in rw z (omega arith)
    made_longer k (suc n) l =
        elim (cases_lt k (suc n)) [
          | inl h ↦ omega (arith, made_longer k n (omega arith), length-append (bucket_made K sizes order w fs n) (bucket_messages K sizes order w (length order - n) (fs ++ bucket_made K sizes order w fs n)))
          | inr h ↦ let e : k ≡ suc n = omega arith in rw e (omega arith)
        ]

    -- the messages of the last k buckets are the first of all
    pub made_front : (k n : ℕ) → k ≤ n → take (length (bucket_made K sizes order w fs k)) (bucket_made K sizes order w fs n) ≡ bucket_made K sizes order w fs k
    made_front k zero l = let z : k ≡ 0 = omega arith in rw z refl
    made_front k (suc n) l =
        elim (cases_lt k (suc n)) [
          | inl h ↦
              take-append-le (length (bucket_made K sizes order w fs k)) (bucket_made K sizes order w fs n) _ (made_longer k n (omega arith))
              ∙ made_front k n (omega arith)
          | inr h ↦ let e : k ≡ suc n = omega arith in rw e (take_all (length (bucket_made K sizes order w fs (suc n))) (bucket_made K sizes order w fs (suc n)) (omega arith))
        ]

-- rule 5: a prefix gets what lies in its buckets of the functions and of the messages from later buckets
pub floor_made : {C : Type 0} {K : Structure C} (L : Lawful K) (p : Problem C) (formed : Shaped p) (w : ℕ) (x : List ℕ) → length x ≤ length p.order
    → costs_at K p.sizes (along p.order x) (kept (λ f. leb (bucket_of p.order f.scope) (length x)) (p.functions ++ bucket_made K p.sizes p.order w p.functions (length p.order - length x)))
    ≡ mini_bucket_floor K w p x
floor_made {C} {K} L p formed w x l =
    let N : ℕ = length p.order in
    let k : ℕ = N - length x in
    let i : N - k ≡ length x = omega arith in
    let all : List (Function C) = p.functions ++ bucket_made K p.sizes p.order w p.functions k in
    ap (λ n. costs_at K p.sizes (along p.order x) (kept (λ f. leb (bucket_of p.order f.scope) n) all)) (sym i)
    ∙ ap (costs_at K p.sizes (along p.order x)) (sym (left_kept L p.sizes p.order w p.functions k (omega arith)))
    ∙ bucket_same L p formed w x l

-- buckets by number make the messages that eliminating one variable after the other makes
module _ {C : Type 0} {K : Structure C} (L : Lawful K) (p : Problem C) (formed : Shaped p) (w : ℕ) where
  abbrev N : ℕ
  N = length p.order

  same_from : (k : ℕ) → k ≤ N → bucket_made K p.sizes p.order w p.functions k ≡ made K p.sizes p.order w p.functions (drop (N - k) p.order)
  same_from zero l = ap (made K p.sizes p.order w p.functions) (sym (drop_all (N - 0) p.order (omega arith)))
  same_from (suc k) l =
      let n : ℕ = N - suc k in
      let v : ℕ = get_or p.order n 0 in
      let short : n < N = omega arith in
      let next : N - k ≡ suc n = omega arith in
      let plus : n + 1 ≡ suc n = omega arith in
      let back : suc n - 1 ≡ n = omega arith in
      let all : List (Function C) = p.functions ++ bucket_made K p.sizes p.order w p.functions k in
      let rest : List (Function C) = left K p.sizes p.order w p.functions (drop (suc n) p.order) in
      let Q : ℕ → Type 0 = λ u. (has p.order u ≡ true) × (has (drop (suc n) p.order) u ≡ false) in
      let inside : Within Q rest = left_within L p.sizes p.order w p.functions (covered p formed) (drop (suc n) p.order) in
      let below : kept (λ f. leb (bucket_of p.order f.scope) (suc n)) all ≡ rest =
      ap (λ i. kept (λ f. leb (bucket_of p.order f.scope) i) all) (sym next) ∙ sym (left_kept L p.sizes p.order w p.functions k (omega arith)) ∙ left_same L p formed w k (omega arith)
      ∙ ap (λ i. left K p.sizes p.order w p.functions (drop i p.order)) next in
      let lying : kept (lies_in p.order (suc n)) all ≡ kept (λ f. has f.scope v) rest =
      sym (kept_kept (lies_in p.order (suc n)) (λ f. leb (bucket_of p.order f.scope) (suc n)) (lies_in p.order (suc n)) (λ f. grind (arith, nat_tests)) all)
      ∙ ap (kept (lies_in p.order (suc n))) below ∙ kept_same Q (lies_in p.order (suc n)) (λ f. has f.scope v) (lies_same p.order n formed.order_distinct short) rest inside in
      let these : drop n p.order ≡ v ∷ drop (suc n) p.order = drop_more p.order n 0 short ∙ ap (λ i. v ∷ drop i p.order) plus in
      ap (λ i. bucket_made K p.sizes p.order w p.functions k ++ bucket_messages K p.sizes p.order w i all) next
      ∙ ap₂ ◌++◌ (same_from k (omega arith) ∙ ap (λ i. made K p.sizes p.order w p.functions (drop i p.order)) next)
      (ap₂ (λ i (fs : List (Function C)). map (message K p.sizes p.order (get_or p.order i 0)) (split_from p.order w [] fs)) back lying)
      ∙ ap (made K p.sizes p.order w p.functions) (sym these)

  pub made_same : bucket_made K p.sizes p.order w p.functions N ≡ made K p.sizes p.order w p.functions p.order
  made_same = let z : N - N ≡ 0 = omega arith in same_from N (omega arith) ∙ ap (λ i. made K p.sizes p.order w p.functions (drop i p.order)) z
