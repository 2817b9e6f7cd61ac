-- Lists of records, and loops over them.
use Rattle.std.proofs.Common.{◌≡◌, ℕ, zero, suc, ◌+◌, ◌-◌, ◌<◌, ◌≤◌, min, Bool, true, false, cond, ◌&&◌, ◌||◌, eqb, leb, List, [], ◌∷◌, ◌++◌, map, length, get_or, take, drop, set, Some, sym, refl, ap, ◌∙◌, inl, inr, add-one, arith}
use Rattle.std.proofs.lemmas.List.{drop_all, take_all, length-drop, drop-map, append_assoc, drop_more, at_drop_more, at_drop_all, get_or-map, get_or-set_same, get_or-set_other, length-set}
use Rattle.std.proofs.lemmas.List.Recursion.{is_count_by}
use Rattle.std.proofs.lemmas.Bool.{cases_Bool, cases_eq, cases_lt, eq-eqb, ne_eqb}
use Rattle.variables.specs.Lists.{has}
use Rattle.std.specs.List.{count_by, list_all}
use Rattle.variables.specs.Records.{scope_of}
use Rattle.problems.specs.declared.plain.TableRecord.{TableRecord}
use Rattle.problems.specs.Records.{Placed, nth, placed_of}
use Rattle.problems.proofs.Placements.{used_length, mapped_length}
use Rattle.floors.specs.Settings.{kept}
use Rattle.buckets.specs.declared.plain.Records.{Records}
use Rattle.buckets.specs.Listed.{listed, tabled}
use Rattle.buckets.specs.Processed.{scopes_of}
use Rattle.buckets.specs.Sources.{short}

pub listed_length : (r : Records) → length (listed r) ≡ r.list.len
listed_length r = used_length tabled r.list.len r.list.slots (omega (arith, r.list.few, r.list.long))

-- what the rest of a list begins with, whose items a slice shows through a map
pub mapped_drop : {A B : Type 0} (f : A → B) (xs : List A) (ys : List B) → map f xs ≡ ys → (k : ℕ) (x : A) → k < length xs → x ≡ get_or xs k x → drop k ys ≡ f x ∷ drop (k + 1) ys
mapped_drop {A} {B} f xs ys e k x h is =
    drop_more ys k (f x) (omega (arith, mapped_length f xs ys e))
    ∙ ap (λ (y : B). y ∷ drop (k + 1) ys) (ap (λ (zs : List B). get_or zs k (f x)) (sym e) ∙ get_or-map f xs k x (f x) h ∙ ap f (sym is))

drop_least : {A : Type 0} (ys : List A) (n m : ℕ) → m ≡ min n (length ys) → drop m ys ≡ drop n ys
drop_least ys n m e = elim (cases_lt n (length ys)) [
  | inl l ↦ let same : m ≡ n = omega arith in ap (λ k. drop k ys) same
  | inr l ↦ drop_all m ys (omega arith) ∙ sym (drop_all n ys l)
]

-- what a slice shows from a place on, which may be past its end
pub mapped_rest : {A B : Type 0} (f : A → B) (xs : List A) (ys : List B) → map f xs ≡ ys → (n m : ℕ) → m ≡ min n (length xs) → map f (take (length xs - m) (drop m xs)) ≡ drop n ys
mapped_rest {A} {B} f xs ys e n m least =
    ap (map f) (take_all (length xs - m) (drop m xs) (omega (arith, length-drop m xs)))
    ∙ sym (drop-map f m xs) ∙ ap (drop m) e ∙ drop_least ys n m (least ∙ ap (min n) (sym (mapped_length f xs ys e)))

-- no scope is longer, record by record
pub short_all : {END : ℕ} (w : ℕ) (rs : List (TableRecord END)) → short w (scopes_of (map (placed_of {END = END}) rs)) ≡ list_all (λ r. leb (length (scope_of r.scope)) w) rs
short_all w [] = refl
short_all {END} w (r ∷ rs) = ap (λ b. leb (length (scope_of r.scope)) w && b) (short_all {END = END} w rs)

-- a filter in a loop: what was kept, and what will be
module _ {A : Type 0} (p : A → Bool) (xs : List A) (i : ℕ) (x : A) (so_far whole : List A) (next : drop i xs ≡ x ∷ drop (i + 1) xs) (before : so_far ++ kept p (drop i xs) ≡ whole) where
  pub keeps : p x ≡ true → (more : List A) → more ≡ so_far ++ x ∷ [] → more ++ kept p (drop (i + 1) xs) ≡ whole
  keeps t more e =
      let step : kept p (drop i xs) ≡ x ∷ kept p (drop (i + 1) xs) = ap (kept p) next ∙ ap (λ (b : Bool). cond b (x ∷ kept p (drop (i + 1) xs)) (kept p (drop (i + 1) xs))) t in
      ap (λ (l : List A). l ++ kept p (drop (i + 1) xs)) e ∙ append_assoc so_far (x ∷ []) (kept p (drop (i + 1) xs)) ∙ ap (λ (l : List A). so_far ++ l) (sym step) ∙ before

  pub passes : p x ≡ false → so_far ++ kept p (drop (i + 1) xs) ≡ whole
  passes t =
      let step : kept p (drop i xs) ≡ kept p (drop (i + 1) xs) = ap (kept p) next ∙ ap (λ (b : Bool). cond b (x ∷ kept p (drop (i + 1) xs)) (kept p (drop (i + 1) xs))) t in
      ap (λ (l : List A). so_far ++ l) (sym step) ∙ before

-- counting is the length of what is kept
pub counted : (p : ℕ → Bool) (xs : List ℕ) → count_by p xs ≡ length (kept p xs)
counted p xs = sym (is_count_by (λ ys. length (kept p ys)) p refl (λ y ys. elim (cases_Bool (p y)) [ inl t ↦ rw t (omega arith) | inr t ↦ rw t ]) xs)

-- one record more of those of a job
pub next_placed : (fs : List Placed) (k : ℕ) (f : Placed) → nth fs k ≡ Some f → take (k + 1) fs ≡ take k fs ++ f ∷ []
next_placed [] k f e = grind arith
next_placed (g ∷ fs) zero f e = let same : g ≡ f = cc in ap (λ (x : Placed). x ∷ []) same
next_placed (g ∷ fs) (suc k) f e = let ih = next_placed fs k f e in rw (add-one (suc k)) (ap (λ (l : List Placed). g ∷ l) (rw (add-one k) at ih))

-- marking the variables of a scope in slots
module _ (vs : List ℕ) (i : ℕ) (h : i < length vs) (slots before : List Bool) (long : length slots ≡ 32)
    (inv : (v : ℕ) → v < 32 → (get_or slots v false || has (drop i vs) v) ≡ (get_or before v false || has vs v)) where
  marks_step : (v : ℕ) → has (drop i vs) v ≡ (eqb (get_or vs i 0) v || has (drop (i + 1) vs) v)
  marks_step v = at_drop_more (λ l. has l v) vs i 0 h

  marks_at : get_or vs i 0 < 32 → (v : ℕ) → v < 32 → (get_or (set slots (get_or vs i 0) true) v false || has (drop (i + 1) vs) v) ≡ (get_or before v false || has vs v)
  marks_at low v l =
      let u = get_or vs i 0 in
      let step = marks_step v in
      let old = inv v l in
      elim (cases_eq v u) [
        | inl e ↦
            let t : eqb u v ≡ true = eq-eqb u v (sym e) in
            let slot : get_or (set slots u true) v false ≡ true = rw e (get_or-set_same slots u true false (omega arith)) in
            grind arith
        | inr n ↦
            let t : eqb u v ≡ false = ne_eqb u v (λ e. n (sym e)) in
            let slot : get_or (set slots u true) v false ≡ get_or slots v false = get_or-set_other slots u v true false n in
            grind arith
      ]

  pub marks : (u : ℕ) (after : List Bool) → u ≡ get_or vs i 0 → u < 32 → after ≡ set slots u true
      → (length after ≡ 32) × ((v : ℕ) → v < 32 → (get_or after v false || has (drop (i + 1) vs) v) ≡ (get_or before v false || has vs v))
  marks u after e low is = (
    ap length is ∙ length-set slots u true ∙ long,
    λ v l. ap (λ (s : List Bool). get_or s v false || has (drop (i + 1) vs) v) (is ∙ ap (λ x. set slots x true) e) ∙ marks_at (omega arith) v l,
  )

pub marked : (vs : List ℕ) (i : ℕ) (slots before : List Bool) → length vs ≤ i → (v : ℕ) → (get_or slots v false || has (drop i vs) v) ≡ (get_or before v false || has vs v) → get_or slots v false ≡ (get_or before v false || has vs v)
marked vs i slots before h v inv = let step = at_drop_all (λ l. has l v) vs i h in grind arith

pub turned : {A : Type 0} (p : A → Bool) (xs : List A) (i : ℕ) (x : A) (so_far whole : List A) → drop i xs ≡ x ∷ drop (i + 1) xs → so_far ++ kept p (drop i xs) ≡ whole → p x ≡ true
    → so_far ++ (x ∷ kept p (drop (i + 1) xs)) ≡ whole
turned {A} p xs i x so_far whole next before t =
    let step : kept p (drop i xs) ≡ x ∷ kept p (drop (i + 1) xs) = ap (kept p) next ∙ ap (λ (b : Bool). cond b (x ∷ kept p (drop (i + 1) xs)) (kept p (drop (i + 1) xs))) t in
    ap (λ (l : List A). so_far ++ l) (sym step) ∙ before

pub nth_drop : {A : Type 0} (n : ℕ) (xs : List A) (k : ℕ) → nth (drop n xs) k ≡ nth xs (n + k)
nth_drop zero xs k = let z : 0 + k ≡ k = omega arith in rw z
nth_drop (suc n) [] k = refl
nth_drop (suc n) (x ∷ xs) k = let z : suc n + k ≡ suc (n + k) = omega arith in rw z (nth_drop n xs k)

pub nth_take : {A : Type 0} (n : ℕ) (xs : List A) (k : ℕ) → k < n → nth (take n xs) k ≡ nth xs k
nth_take zero xs k h = absurd (omega arith)
nth_take (suc n) [] k h = refl
nth_take (suc n) (x ∷ xs) zero h = refl
nth_take (suc n) (x ∷ xs) (suc k) h = nth_take n xs k (omega arith)

pub take_past : {A : Type 0} (xs ys : List A) (m : ℕ) → take (length xs + m) (xs ++ ys) ≡ xs ++ take m ys
take_past [] ys m = let z : 0 + m ≡ m = omega arith in rw z
take_past {A} (x ∷ xs) ys m = let z : suc (length xs) + m ≡ suc (length xs + m) = omega arith in rw z (ap (λ (l : List A). x ∷ l) (take_past xs ys m))
