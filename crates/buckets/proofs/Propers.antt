-- The scope of a message is a proper one: known variables, none twice, at most five.
use Rattle.std.proofs.Common.{◌≡◌, ℕ, suc, ◌<◌, ◌≤◌, Bool, true, false, not, ◌&&◌, eqb, leb, List, [], ◌∷◌, ◌++◌, map, length, get_or, take, refl, ap, inl, inr, arith}
use mathlib.Core.Path.{fun_ext}
use Rattle.std.specs.List.{AllByRecursion}
use Rattle.std.proofs.lemmas.List.{length-take}
use Rattle.std.proofs.lemmas.Bool.{cond_both, cases_Bool, and_parts, and_from, not-true, le-leb, or_left}
use Rattle.variables.specs.Lists.{has, known, distinct}
use Rattle.variables.specs.Rules.{proper}
use Rattle.problems.specs.Records.{Placed}
use Rattle.problems.specs.declared.plain.TableRecord.{TableRecord}
use Rattle.floors.specs.Settings.{kept}
use Rattle.floors.specs.ByNumber.{bucket_of}
use Rattle.floors.specs.Shapes.{Distinct}
use Rattle.floors.specs.Scopes.{has_kept, kept_has}
use Rattle.buckets.specs.declared.plain.Records.{Records}
use Rattle.buckets.specs.Listed.{listed, tabled}
use Rattle.buckets.specs.Joining.{names, taken}
use Rattle.buckets.proofs.Filters.{lies_has}
use Rattle.buckets.proofs.Bounds.{kept_few, but_less, getD_has}
use Rattle.buckets.proofs.Joining.{taken_narrow, all_taken}

pub is_distinct : (vs : List ℕ) → distinct vs ≡ true → Distinct vs
is_distinct [] h = tt
is_distinct (v ∷ vs) h = let both = and_parts (not (has vs v)) (distinct vs) h in (not-true (has vs v) both.0, is_distinct vs both.1)

known_kept : (n : ℕ) (p : ℕ → Bool) (xs : List ℕ) → known n xs ≡ true → known n (kept p xs) ≡ true
known_kept n p [] h = refl
known_kept n p (x ∷ xs) h = let ih = known_kept n p xs in grind arith

distinct_kept : (p : ℕ → Bool) (xs : List ℕ) → distinct xs ≡ true → distinct (kept p xs) ≡ true
distinct_kept p [] h = refl
distinct_kept p (x ∷ xs) h =
    let both = and_parts (not (has xs x)) (distinct xs) h in
    cond_both (p x) (x ∷ kept p xs) (kept p xs) (λ l. distinct l ≡ true)
    (λ _. and_from (not (has (kept p xs) x)) (distinct (kept p xs)) (lacks (not-true (has xs x) both.0)) (distinct_kept p xs both.1))
    (λ _. distinct_kept p xs both.1)
  where
    lacks : has xs x ≡ false → not (has (kept p xs) x) ≡ true
    lacks f = elim (cases_Bool (has (kept p xs) x)) [ inl e ↦ let k = (kept_has p xs x e).1 in grind arith | inr e ↦ ap not e ]

-- records have at most five variables
pub listed_few : (r : Records) → AllByRecursion (λ (f : Placed). length f.scope ≤ 5) (listed r)
listed_few r = each (take r.list.len r.list.slots)
  where
    each : (rs : List (TableRecord 18446744073709551615)) → AllByRecursion (λ (f : Placed). length f.scope ≤ 5) (map tabled rs)
    each [] = tt
    each (f ∷ rs) = (omega (arith, length-take f.scope.len f.scope.variables, f.scope.few), each rs)

all_names : (v : ℕ) (f : Placed) (fs : List Placed) → AllByRecursion (λ (g : Placed). has g.scope v ≡ true) (f ∷ fs) → names (f ∷ fs) v ≡ true
all_names v f fs h = or_left (has f.scope v) (names fs v) h.0

module _ (n : ℕ) (order : List ℕ) (apart : distinct order ≡ true) (know : known n order ≡ true) (w : ℕ) (narrow : w ≤ 6) (p : ℕ) (l : p < length order) where
  lies_all : (fs : List Placed) → AllByRecursion (λ (f : Placed). bucket_of order f.scope ≡ suc p) fs → AllByRecursion (λ (f : Placed). has f.scope (get_or order p 0) ≡ true) fs
  lies_all [] h = tt
  lies_all (f ∷ fs) h = (lies_has order p f.scope h.0, lies_all fs h.1)

  -- what a mini-bucket has, with the bucket's variable
  some_names : (ms : List Placed) → 0 < length ms → AllByRecursion (λ (f : Placed). has f.scope (get_or order p 0) ≡ true) ms → names ms (get_or order p 0) ≡ true
  some_names [] s h = absurd (omega arith)
  some_names (m ∷ ms) s h = all_names (get_or order p 0) m ms h

  taken_some : (ms fs : List Placed) → 0 < length ms → 0 < length (taken order w ms fs)
  taken_some ms [] h = h
  taken_some ms (f ∷ fs) h = cond_both _ (taken order w (ms ++ f ∷ []) fs) (taken order w ms fs) (λ t. 0 < length t) (λ _. taken_some (ms ++ f ∷ []) fs (longer ms f)) (λ _. taken_some ms fs h)
    where
      longer : (xs : List Placed) (x : Placed) → 0 < length (xs ++ x ∷ [])
      longer [] x = omega arith
      longer (y ∷ xs) x = omega arith

  module _ (f : Placed) (fs : List Placed) (few : AllByRecursion (λ (g : Placed). length g.scope ≤ 5) (f ∷ fs)) (lies : AllByRecursion (λ (g : Placed). bucket_of order g.scope ≡ suc p) (f ∷ fs)) where
    abbrev members : List Placed
    members = taken order w [] (f ∷ fs)

    wide : length (kept (names members) order) ≤ 6
    wide =
        let one : length (kept (names (f ∷ [])) order) ≡ length (kept (has f.scope) order) = ap (λ q. length (kept q order)) (fun_ext (λ v. grind arith)) in
        taken_narrow order w 6 narrow f fs (omega (arith, kept_few f.scope order (is_distinct order apart), few.0))

    pub proper_message : proper n (kept (λ u. not (eqb u (get_or order p 0))) (kept (names members) order)) ≡ true
    proper_message =
        let v : ℕ = get_or order p 0 in
        let vs : List ℕ = kept (λ u. not (eqb u v)) (kept (names members) order) in
        let having = all_taken order w (λ (g : Placed). has g.scope v ≡ true) [] (f ∷ fs) tt (lies_all (f ∷ fs) lies) in
        let named : names members v ≡ true = some_names members (taken_some (f ∷ []) fs (omega arith)) having in
        let there : has (kept (names members) order) v ≡ true = has_kept (names members) order v named (getD_has order p l) in
        and_from (leb (length vs) 5) (known n vs && distinct vs) (le-leb (length vs) 5 (omega (arith, but_less v (kept (names members) order) there, wide)))
        (and_from (known n vs) (distinct vs) (known_kept n (λ u. not (eqb u v)) (kept (names members) order) (known_kept n (names members) order know))
        (distinct_kept (λ u. not (eqb u v)) (kept (names members) order) (distinct_kept (names members) order apart)))
