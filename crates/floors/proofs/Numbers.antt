-- Buckets by their numbers hold the functions that have the bucket's variable.
use Rattle.std.proofs.Common.{◌≡◌, ℕ, zero, suc, ◌+◌, ◌-◌, ◌<◌, ◌≤◌, max, Bool, true, false, cond, not, ◌&&◌, ◌||◌, eqb, leb, List, [], ◌∷◌, ◌++◌, map, length, get_or, take, drop, sym, refl, ap, ◌∙◌, ap₂, inl, inr, arith}
use mathlib.Core.Path.{fun_ext}
use Rattle.std.proofs.lemmas.List.{drop_all, drop_more, map-append, append-nil, length-append, length-map}
use Rattle.std.proofs.ByRecursion.{All-get_or}
use Rattle.std.proofs.lemmas.Bool.{cond_both, or_right, and_from, cases_Bool, le-leb, lt-leb}
use Rattle.std.proofs.lemmas.Bool.Decides.{nat_tests}
use Rattle.costs.specs.Structures.{Structure, Lawful, total}
use Rattle.floors.specs.Leasts.{lesser, least_of}
use Rattle.variables.specs.Lists.{has}
use Rattle.variables.specs.Assignments.{Assignment, along}
use Rattle.problems.specs.Problems.{Function, Problem, cost_at}
use Rattle.floors.specs.Settings.{assign, values, upto, kept, costs_at}
use Rattle.floors.specs.Shapes.{Shaped, Distinct}
use Rattle.floors.specs.MiniBuckets.{flat, message, split_from, left, mini_bucket_floor}
use Rattle.floors.specs.Floors.{within, paid_floor, cheapest, first_choice_floor}
use Rattle.floors.specs.ByNumber.{place_from, bucket_of, lies_in, bucket_messages, bucket_left, bucket_floor, bucket_paid_floor, agreeing, listed_choice_floor}
use Rattle.floors.specs.Scopes.{has_first, Within, within_head, within_tail}
use Rattle.floors.specs.Eliminations.{left_within}
use Rattle.floors.specs.Covers.{covered, known_has}
use Rattle.floors.specs.Climbs.{take_in}

-- places

place_above : (q : ℕ) (order : List ℕ) (v : ℕ) → has order v ≡ true → q ≤ place_from q order v
place_above q [] v h = grind arith
place_above q (u ∷ order) v h = grind (arith, place_above (suc q) order v)

-- the place is at most n where the variable is among the first n
pub place_take : (q : ℕ) (order : List ℕ) (n v : ℕ) → has order v ≡ true → leb (place_from (suc q) order v) (q + n) ≡ has (take n order) v
place_take q [] n v h = grind arith
place_take q (u ∷ order) zero v h = lt-leb _ _ (omega (arith, place_above (suc q) (u ∷ order) v h))
place_take q (u ∷ order) (suc n) v h = let on : q + suc n ≡ suc q + n = omega arith in rw on (grind (arith, nat_tests, place_take (suc q) order n v))

leb_max : (a b n : ℕ) → leb (max a b) n ≡ (leb a n && leb b n)
leb_max a b n = grind (arith, nat_tests)

pub bucket_take : (order : List ℕ) (n : ℕ) (scope : List ℕ) → ((v : ℕ) → has scope v ≡ true → has order v ≡ true) → leb (bucket_of order scope) n ≡ within (take n order) scope
bucket_take order n [] h = le-leb 0 n (omega arith)
bucket_take order n (v ∷ vs) h =
    leb_max (place_from 1 order v) (bucket_of order vs) n
    ∙ ap₂ ◌&&◌ (ap (leb (place_from 1 order v)) (omega arith) ∙ place_take 0 order n v (h v (has_first v vs))) (bucket_take order n vs (λ u k. h u (or_right (eqb v u) _ k)))

getD_has : (xs : List ℕ) (n : ℕ) → n < length xs → has xs (get_or xs n 0) ≡ true
getD_has [] n l = absurd (omega arith)
getD_has (x ∷ xs) zero l = has_first x xs
getD_has (x ∷ xs) (suc n) l = or_right (eqb x _) _ (getD_has xs n (omega arith))

take_last : (order : List ℕ) (n u : ℕ) → Distinct order → n < length order → has (take (suc n) order) u ≡ true → has (take n order) u ≡ not (eqb u (get_or order n 0))
take_last [] n u d l h = absurd (omega arith)
take_last (x ∷ xs) zero u d l h = grind (arith, nat_tests)
take_last (x ∷ xs) (suc n) u d l h =
    let short : n < length xs = omega arith in
    grind (arith, nat_tests, take_last xs n u d.1 short, getD_has xs n short, d.0)

neither : (a b x y : Bool) → x ≡ not a → y ≡ not b → (x && y) ≡ not (a || b)
neither a b x y h k = grind arith

scope_last : (order : List ℕ) (n : ℕ) → Distinct order → n < length order → (scope : List ℕ) → ((u : ℕ) → has scope u ≡ true → has (take (suc n) order) u ≡ true)
    → within (take n order) scope ≡ not (has scope (get_or order n 0))
scope_last order n d l [] h = refl
scope_last order n d l (u ∷ us) h = neither _ _ _ _ (take_last order n u d l (h u (has_first u us))) (scope_last order n d l us (λ x k. h x (or_right (eqb u x) _ k)))

within_all : (given scope : List ℕ) → ((u : ℕ) → has scope u ≡ true → has given u ≡ true) → within given scope ≡ true
within_all given [] h = refl
within_all given (u ∷ us) h = and_from _ _ (h u (has_first u us)) (within_all given us (λ x k. h x (or_right (eqb u x) _ k)))

by_count : (b n : ℕ) (t : Bool) → leb b (suc n) ≡ true → leb b n ≡ not t → eqb b (suc n) ≡ t
by_count b n t h k = grind (arith, nat_tests)

-- once the later buckets have been processed, bucket n + 1 has the functions that have its variable
pub lies_same : {C : Type 0} (order : List ℕ) (n : ℕ) → Distinct order → n < length order → (f : Function C)
    → ((u : ℕ) → has f.scope u ≡ true → (has order u ≡ true) × (has (drop (suc n) order) u ≡ false)) → lies_in order (suc n) f ≡ has f.scope (get_or order n 0)
lies_same order n d l f h =
    let inside : (u : ℕ) → has f.scope u ≡ true → has (take (suc n) order) u ≡ true = λ u k. let q = h u k in take_in (suc n) order u q.0 q.1 in
    let ordered : (u : ℕ) → has f.scope u ≡ true → has order u ≡ true = λ u k. (h u k).0 in
    by_count (bucket_of order f.scope) n (has f.scope (get_or order n 0))
    (bucket_take order (suc n) f.scope ordered ∙ within_all (take (suc n) order) f.scope inside) (bucket_take order n f.scope ordered ∙ scope_last order n d l f.scope inside)

pub kept_same : {C : Type 0} (Q : ℕ → Type 0) (p q : Function C → Bool) → ((f : Function C) → ((u : ℕ) → has f.scope u ≡ true → Q u) → p f ≡ q f) → (fs : List (Function C)) → Within Q fs → kept p fs ≡ kept q fs
kept_same Q p q same [] w = refl
kept_same Q p q same (f ∷ fs) w =
    ap₂ (λ b l. cond b (f ∷ l) l) (same f (within_head Q f fs w)) (kept_same Q p q same fs (within_tail Q f fs w))

module _ {C : Type 0} {K : Structure C} (L : Lawful K) (p : Problem C) (formed : Shaped p) where
  abbrev N : ℕ
  N = length p.order

  module _ (w : ℕ) where
    pub left_same : (k : ℕ) → k ≤ N → bucket_left K p.sizes p.order w p.functions k ≡ left K p.sizes p.order w p.functions (drop (N - k) p.order)
    left_same zero l = rw (drop_all (N - 0) p.order (omega arith))
    left_same (suc k) l =
        let n : ℕ = N - suc k in
        let v : ℕ = get_or p.order n 0 in
        let short : n < N = omega arith in
        let next : N - k ≡ suc n = omega arith in
        let plus : n + 1 ≡ suc n = omega arith in
        let rest : List (Function C) = left K p.sizes p.order w p.functions (drop (suc n) p.order) in
        let Q : ℕ → Type 0 = λ u. (has p.order u ≡ true) × (has (drop (suc n) p.order) u ≡ false) in
        let inside : Within Q rest = left_within L p.sizes p.order w p.functions (covered p formed) (drop (suc n) p.order) in
        let lies : (f : Function C) → ((u : ℕ) → has f.scope u ≡ true → Q u) → lies_in p.order (suc n) f ≡ has f.scope v = lies_same p.order n formed.order_distinct short in
        let before : bucket_left K p.sizes p.order w p.functions k ≡ rest = left_same k (omega arith) ∙ ap (λ i. left K p.sizes p.order w p.functions (drop i p.order)) next in
        let these : drop n p.order ≡ v ∷ drop (suc n) p.order = drop_more p.order n 0 short ∙ ap (λ i. v ∷ drop i p.order) plus in
        let back : suc n - 1 ≡ n = omega arith in
        ap₂ (λ i fs. kept (λ f. not (lies_in p.order i f)) fs ++ bucket_messages K p.sizes p.order w i fs) next before
        ∙ ap₂ ◌++◌ (kept_same Q _ _ (λ f h. ap not (lies f h)) rest inside)
        (ap₂ (λ i fs. map (message K p.sizes p.order (get_or p.order i 0)) (split_from p.order w [] fs)) back (kept_same Q _ _ lies rest inside))
        ∙ ap (left K p.sizes p.order w p.functions) (sym these)

    pub bucket_same : (x : List ℕ) → length x ≤ N → bucket_floor K w p x ≡ mini_bucket_floor K w p x
    bucket_same x l =
        let i : N - (N - length x) ≡ length x = omega arith in
        ap (costs_at K p.sizes (along p.order x)) (left_same (N - length x) (omega arith) ∙ ap (λ j. left K p.sizes p.order w p.functions (drop j p.order)) i)

  pub paid_same : (x : List ℕ) → bucket_paid_floor K p x ≡ paid_floor K p x
  paid_same x =
      ap (costs_at K p.sizes (along p.order x))
      (kept_same (λ u. has p.order u ≡ true) _ _ (λ f h. bucket_take p.order (length x) f.scope h) p.functions (covered p formed))

-- the least of a list of lists, list by list

module _ {C : Type 0} {K : Structure C} (L : Lawful K) where
  pub lesser_assoc : (a b c : C) → lesser K (lesser K a b) c ≡ lesser K a (lesser K b c)
  lesser_assoc a b c = grind (arith, L.total, L.transitive)

  least_append : (xs ys : List C) → 0 < length xs → 0 < length ys → least_of K (xs ++ ys) ≡ lesser K (least_of K xs) (least_of K ys)
  least_append [] ys h k = absurd (omega arith)
  least_append (x ∷ []) [] h k = absurd (omega arith)
  least_append (x ∷ []) (y ∷ ys) h k = refl
  least_append (x ∷ (z ∷ zs)) ys h k = ap (lesser K x) (least_append (z ∷ zs) ys (omega arith) k) ∙ sym (lesser_assoc x (least_of K (z ∷ zs)) (least_of K ys))

  module _ {A : Type 0} (F : A → C) (T : ℕ → List A) (some : (c : ℕ) → 0 < length (T c)) where
    flat_some : (c : ℕ) (cs : List ℕ) → 0 < length (flat (map T (c ∷ cs)))
    flat_some c cs = omega (arith, some c, length-append (T c) (flat (map T cs)))

    least_flat : (cs : List ℕ) → least_of K (map F (flat (map T cs))) ≡ least_of K (map (λ c. least_of K (map F (T c))) cs)
    least_flat [] = refl
    least_flat (c ∷ []) = ap (λ l. least_of K (map F l)) (append-nil (T c))
    least_flat (c ∷ (d ∷ ds)) =
        let more : List A = flat (map T (d ∷ ds)) in
        ap (least_of K) (map-append F (T c) more)
        ∙ least_append (map F (T c)) (map F more) (simp length-map (some c)) (simp length-map (flat_some d ds))
        ∙ ap (lesser K (least_of K (map F (T c)))) (least_flat (d ∷ ds))

  module _ (sizes given : List ℕ) (F : Assignment → C) where
    agreeing_some : (vs : List ℕ) → ((v : ℕ) → has vs v ≡ true → 0 < get_or sizes v 0) → (a : Assignment) → 0 < length (agreeing sizes given vs a)
    agreeing_some [] h a = omega arith
    agreeing_some (v ∷ vs) h a =
        let rest = agreeing_some vs (λ u k. h u (or_right (eqb v u) _ k)) in
        cond_both (has given v) (agreeing sizes given vs a) (flat (map (λ c. agreeing sizes given vs (assign a v c)) (values sizes v))) (λ l. 0 < length l)
        (λ _. rest a) (λ _. go (get_or sizes v 0) (h v (has_first v vs)) (λ c. rest (assign a v c)))
      where
        go : (n : ℕ) → 0 < n → ((c : ℕ) → 0 < length (agreeing sizes given vs (assign a v c))) → 0 < length (flat (map (λ c. agreeing sizes given vs (assign a v c)) (upto 0 n)))
        go zero l r = absurd (omega arith)
        go (suc n) l r = flat_some F (λ c. agreeing sizes given vs (assign a v c)) r 0 (upto 1 n)

    agreeing_least : (vs : List ℕ) → ((v : ℕ) → has vs v ≡ true → 0 < get_or sizes v 0) → (a : Assignment) → least_of K (map F (agreeing sizes given vs a)) ≡ cheapest K sizes given vs F a
    agreeing_least [] h a = refl
    agreeing_least (v ∷ vs) h a =
        let later : (u : ℕ) → has vs u ≡ true → 0 < get_or sizes u 0 = λ u k. h u (or_right (eqb v u) _ k) in
        elim (cases_Bool (has given v)) [
          | inl e ↦ rw e (agreeing_least vs later a)
          | inr e ↦
              rw e (least_flat F (λ c. agreeing sizes given vs (assign a v c)) (λ c. agreeing_some vs later (assign a v c)) (values sizes v)
              ∙ ap (λ g. least_of K (map g (values sizes v))) (fun_ext (λ c. agreeing_least vs later (assign a v c))))
        ]

module _ {C : Type 0} {K : Structure C} (L : Lawful K) (p : Problem C) (formed : Shaped p) where
  total_same : (Q : ℕ → Type 0) (g h : Function C → C) → ((f : Function C) → ((u : ℕ) → has f.scope u ≡ true → Q u) → g f ≡ h f) → (fs : List (Function C)) → Within Q fs → total K (map g fs) ≡ total K (map h fs)
  total_same Q g h same [] w = refl
  total_same Q g h same (f ∷ fs) w =
      ap₂ K.combined (same f (within_head Q f fs w)) (total_same Q g h same fs (within_tail Q f fs w))

  pub choice_same : (x : List ℕ) → listed_choice_floor K p x ≡ first_choice_floor K p x
  choice_same x =
      total_same (λ u. 0 < get_or p.sizes u 0) _ _ (λ f h. agreeing_least L p.sizes (take (length x) p.order) (λ a. cost_at K p.sizes a f) f.scope h (along p.order x)) p.functions
      (λ u m. All-get_or (λ k. 0 < k) p.sizes u 0 (known_has (length p.sizes) p.order u formed.order_known (covered p formed u m)) formed.sizes_are)

  pub same_floors : (x : List ℕ) → length x ≤ length p.order
      → (bucket_paid_floor K p x ≡ paid_floor K p x) × (listed_choice_floor K p x ≡ first_choice_floor K p x) × ((w : ℕ) → bucket_floor K w p x ≡ mini_bucket_floor K w p x)
  same_floors x l = (paid_same L p formed x, choice_same x, λ w. bucket_same L p formed w x l)
