-- A formed problem's parts, as recursions over their lists.
use Rattle.std.specs.Prelude.{◌≡◌, ℕ, ◌<◌, true, false, not, ◌&&◌, List, [], ◌∷◌, length, ◌==◌, nat_le, nat_lt}
use Rattle.std.specs.List.{AllByRecursion}
use Rattle.std.proofs.lemmas.Bool.{and_parts, not-true, ltb-true, leb-true, eqb-true}
use Rattle.variables.specs.Lists.{has, known, distinct}
use Rattle.variables.specs.Assignments.{cells}
use Rattle.problems.specs.Problems.{Function, Problem}
use Rattle.variables.specs.Rules.{domain, domains, proper}
use Rattle.floors.specs.Settings.{Formed}

abbrev pub Distinct : List ℕ → Type 0
Distinct [] = Unit {0}
Distinct (v ∷ vs) = (has vs v ≡ false) × Distinct vs

abbrev pub Known : ℕ → List ℕ → Type 0
Known n [] = Unit {0}
Known n (v ∷ vs) = (v < n) × Known n vs

is_distinct : (vs : List ℕ) → distinct vs ≡ true → Distinct vs
is_distinct [] h = tt
is_distinct (v ∷ vs) h = let both = and_parts (not (has vs v)) (distinct vs) h in (not-true (has vs v) both.0, is_distinct vs both.1)

is_known : (n : ℕ) (vs : List ℕ) → known n vs ≡ true → Known n vs
is_known n [] h = tt
is_known n (v ∷ vs) h = let both = and_parts (nat_lt v n) (known n vs) h in (ltb-true v n both.0, is_known n vs both.1)

some_domains : (sizes : List ℕ) → domains sizes ≡ true → AllByRecursion (λ k. 0 < k) sizes
some_domains [] h = tt
some_domains (k ∷ sizes) h =
    let both = and_parts (domain k) (domains sizes) h in
    (leb-true 1 k (and_parts (nat_le 1 k) (nat_le k 16) both.0).0, some_domains sizes both.1)

all_map : {A : Type 0} (P Q : A → Type 0) → ((x : A) → P x → Q x) → (xs : List A) → AllByRecursion P xs → AllByRecursion Q xs
all_map P Q h [] all = tt
all_map P Q h (x ∷ xs) all = (h x all.0, all_map P Q h xs all.1)

pub record Shaped {C : Type 0} (p : Problem C) : Type 0 where
  pub sizes_are : AllByRecursion (λ k. 0 < k) p.sizes
  pub order_length : length p.order ≡ length p.sizes
  pub order_known : Known (length p.sizes) p.order
  pub order_distinct : Distinct p.order
  pub scopes_known : AllByRecursion (λ f. Known (length p.sizes) f.scope) p.functions
  pub scopes_distinct : AllByRecursion (λ f. Distinct f.scope) p.functions
  pub tables_are : AllByRecursion (λ f. length f.table ≡ cells p.sizes f.scope) p.functions

pub shaped : {C : Type 0} (p : Problem C) → Formed p → Shaped p
shaped {C} p formed =
    let n = length p.sizes in
    let order = and_parts (length p.order == n) (known n p.order && distinct p.order) formed.ordered in
    let names = and_parts (known n p.order) (distinct p.order) order.1 in
    let parts = λ (f : Function C) (h : proper n f.scope ≡ true). and_parts (known n f.scope) (distinct f.scope) (and_parts (nat_le (length f.scope) 5) _ h).1 in
    record {
      sizes_are = some_domains p.sizes formed.sized;
      order_length = eqb-true (length p.order) n order.0;
      order_known = is_known n p.order names.0;
      order_distinct = is_distinct p.order names.1;
      scopes_known = all_map _ _ (λ f h. is_known n f.scope (parts f h).0) p.functions formed.scoped;
      scopes_distinct = all_map _ _ (λ f h. is_distinct f.scope (parts f h).1) p.functions formed.scoped;
      tables_are = formed.tabled;
    }
