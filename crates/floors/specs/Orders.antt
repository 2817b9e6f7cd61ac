-- What the laws of a cost structure give: the order, combining, totals and leasts.
use Rattle.std.specs.Prelude.{◌≡◌, ℕ, Bool, true, cond, not, List, [], ◌∷◌, ◌++◌, map, ◌==◌}
use Rattle.std.proofs.Common.{sym, ◌∙◌, ap, subst, inl, inr, arith}
use Rattle.std.specs.List.{AllByRecursion}
use Rattle.std.proofs.lemmas.Bool.{cond_both, or_cases, eqb-true}
use Rattle.std.proofs.lemmas.Bool.Decides.{nat_tests}
use Rattle.costs.specs.Structures.{Structure, Lawful, total}
use Rattle.floors.specs.Leasts.{lesser, least_of}
use Rattle.variables.specs.Lists.{has}
use Rattle.floors.specs.Settings.{kept}

-- a record, so that what stands on either side can be left out of a chain
pub record Le {C : Type 0} (K : Structure C) (a b : C) : Type 0 where
  pub is : K.at_most a b ≡ true

module _ {C : Type 0} {K : Structure C} (L : Lawful K) where
  pub le_refl : (a : C) → Le K a a
  le_refl a = elim (L.total a a) [ inl h ↦ record { is = h } | inr h ↦ record { is = h } ]

  pub le_trans : {a b c : C} → Le K a b → Le K b c → Le K a c
  le_trans {a} {b} {c} h k = record { is = L.transitive a b c h.is k.is }

  -- a and b are one cost
  pub le_same : {a b : C} → K.stands a ≡ b → Le K a b
  le_same {a} {b} e = subst (Le K a) e (record { is = sym (L.order_stands a (K.stands a)) ∙ (le_refl (K.stands a)).is })

  pub ge_same : {a b : C} → K.stands a ≡ b → Le K b a
  ge_same {a} {b} e = subst (λ c. Le K c a) e (record { is = L.order_stands a a ∙ (le_refl a).is })

  pub le_equal : {a b : C} → a ≡ b → Le K a b
  le_equal {a} {b} e = subst (Le K a) e (le_refl a)

  pub mono : {a b c d : C} → Le K a b → Le K c d → Le K (K.combined a c) (K.combined b d)
  mono {a} {b} {c} {d} h k =
      let right : Le K (K.combined b c) (K.combined b d) = rw (L.commutative b c, L.commutative b d) (record { is = L.monotone c d b k.is }) in
      le_trans (record { is = L.monotone a b c h.is }) right

  pub unit_right : (a : C) → K.combined a K.neutral ≡ K.stands a
  unit_right a = L.commutative a K.neutral ∙ L.unit a

  pub absorb : (a b : C) → K.combined a (K.stands b) ≡ K.combined a b
  absorb a b = ap (K.combined a) (sym (unit_right b)) ∙ sym (L.associative a b K.neutral) ∙ unit_right (K.combined a b) ∙ L.combined_stands a b

  pub left_comm : (a b c : C) → K.combined a (K.combined b c) ≡ K.combined b (K.combined a c)
  left_comm a b c = sym (L.associative a b c) ∙ ap (λ x. K.combined x c) (L.commutative a b) ∙ L.associative b a c

  -- combining another cost does not make it cheaper
  pub grown : (a b : C) → Le K b (K.combined a b)
  grown a b = le_trans (le_same (sym (L.unit b))) (mono (record { is = L.least a }) (le_refl b))

  module _ {A : Type 0} (g : A → C) where
    pub total_append : (xs ys : List A) → K.stands (total K (map g (xs ++ ys))) ≡ K.combined (total K (map g xs)) (total K (map g ys))
    total_append [] ys = sym (L.unit (total K (map g ys)))
    total_append (x ∷ xs) ys =
        L.combined_stands (g x) (total K (map g (xs ++ ys))) ∙ sym (absorb (g x) (total K (map g (xs ++ ys)))) ∙ ap (K.combined (g x)) (total_append xs ys)
        ∙ sym (L.associative (g x) (total K (map g xs)) (total K (map g ys)))

    -- what a test keeps, and what it does not
    pub total_parted : (p : A → Bool) (xs : List A) → K.stands (total K (map g xs)) ≡ K.combined (total K (map g (kept (λ x. not (p x)) xs))) (total K (map g (kept p xs)))
    total_parted p [] = sym (L.unit K.neutral)
    total_parted p (x ∷ xs) =
        let t : C = total K (map g xs) in
        let no : C = total K (map g (kept (λ y. not (p y)) xs)) in
        let some : C = total K (map g (kept p xs)) in
        let parted : K.combined (g x) t ≡ K.combined (g x) (K.combined no some) = sym (absorb (g x) t) ∙ ap (K.combined (g x)) (total_parted p xs) in
        L.combined_stands (g x) t ∙ parted ∙
        grind (arith, left_comm (g x) no some, L.associative (g x) no some)

    -- of two tests, one that passes wherever the other does
    pub total_kept : (p q : A → Bool) → ((x : A) → p x ≡ true → q x ≡ true) → (xs : List A) → Le K (total K (map g (kept p xs))) (total K (map g (kept q xs)))
    total_kept p q more [] = le_refl K.neutral
    total_kept p q more (x ∷ xs) =
        let rest = total_kept p q more xs in
        cond_both (p x) (x ∷ kept p xs) (kept p xs) (λ l. Le K (total K (map g l)) (total K (map g (cond (q x) (x ∷ kept q xs) (kept q xs)))))
        (λ e. rw (more x e) (mono (le_refl (g x)) rest))
        (λ _. cond_both (q x) (x ∷ kept q xs) (kept q xs) (λ l. Le K (total K (map g (kept p xs))) (total K (map g l))) (λ _. le_trans rest (grown (g x) _)) (λ _. rest))

  pub total_mono : {A : Type 0} (f g : A → C) (xs : List A) → AllByRecursion (λ x. Le K (f x) (g x)) xs → Le K (total K (map f xs)) (total K (map g xs))
  total_mono f g [] h = le_refl K.neutral
  total_mono f g (x ∷ xs) h = mono h.0 (total_mono f g xs h.1)

  lesser_left : (a b : C) → Le K (lesser K a b) a
  lesser_left a b = record { is = grind (arith, L.total, (le_refl a).is) }

  lesser_right : (a b : C) → Le K (lesser K a b) b
  lesser_right a b = record { is = grind (arith, (le_refl b).is) }

  lesser_above : {a b c : C} → Le K c a → Le K c b → Le K c (lesser K a b)
  lesser_above {a} {b} {c} h k = cond_both (K.at_most a b) a b (Le K c) (λ _. h) (λ _. k)

  -- the least of a list is at most each of it
  pub least_le : (f : ℕ → C) (xs : List ℕ) (x : ℕ) → has xs x ≡ true → Le K (least_of K (map f xs)) (f x)
  least_le f [] x h = grind arith
  least_le f (y ∷ []) x h = le_equal (ap f (grind (arith, nat_tests)))
  least_le f (y ∷ (z ∷ zs)) x h =
      elim (or_cases (y == x) (has (z ∷ zs) x) h) [
        | inl e ↦ subst (λ c. Le K (least_of K (map f (y ∷ (z ∷ zs)))) (f c)) (eqb-true y x e) (lesser_left (f y) _)
        | inr e ↦ le_trans (lesser_right (f y) _) (least_le f (z ∷ zs) x e)
      ]

  pub least_mono : (f g : ℕ → C) → ((x : ℕ) → Le K (f x) (g x)) → (xs : List ℕ) → Le K (least_of K (map f xs)) (least_of K (map g xs))
  least_mono f g h [] = le_refl K.neutral
  least_mono f g h (y ∷ []) = h y
  least_mono f g h (y ∷ (z ∷ zs)) = lesser_above (le_trans (lesser_left (f y) _) (h y)) (le_trans (lesser_right (f y) _) (least_mono f g h (z ∷ zs)))
