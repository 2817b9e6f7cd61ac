-- At most 320 messages: each lowers the total length of the scopes still to be processed by at least one.
use Rattle.std.proofs.Common.{◌≡◌, ℕ, zero, suc, ◌+◌, ◌-◌, ◌*◌, ◌<◌, ◌≤◌, Bool, true, false, not, ◌||◌, eqb, leb, List, [], ◌∷◌, ◌++◌, map, length, get_or, sym, refl, ap, ◌∙◌, inl, inr, arith}
use Rattle.std.specs.List.{AllByRecursion}
use Rattle.std.proofs.lemmas.List.{length-map, length-append, append_assoc}
use Rattle.std.proofs.lemmas.Bool.{cond_both, cases_Bool, or_left, or_right, eqb-true, eq-eqb}
use Rattle.std.proofs.lemmas.Bool.Decides.{nat_tests}
use Rattle.variables.specs.Lists.{has}
use Rattle.problems.specs.Problems.{Function}
use Rattle.floors.specs.Settings.{kept}
use Rattle.floors.specs.MiniBuckets.{mentions, variables, joined, split_from, flat}
use Rattle.floors.specs.ByNumber.{bucket_of, lies_in}
use Rattle.floors.specs.Shapes.{Distinct}
use Rattle.floors.specs.Scopes.{has_kept}
use Rattle.buckets.specs.Made.{bare, message_scope, scopes_from, scopes_made}
use Rattle.buckets.proofs.Filters.{kept_append, kept_map, lies_has}

-- how many a filter keeps

pub kept_either : (p q : ℕ → Bool) (xs : List ℕ) → length (kept (λ v. p v || q v) xs) ≤ length (kept p xs) + length (kept q xs)
kept_either p q [] = omega arith
kept_either p q (x ∷ xs) = let ih = kept_either p q xs in grind arith

kept_none : (x : ℕ) (xs : List ℕ) → has xs x ≡ false → length (kept (eqb x) xs) ≡ 0
kept_none x [] h = refl
kept_none x (y ∷ xs) h = let ih = kept_none x xs in grind (arith, nat_tests)

kept_one : (x : ℕ) (xs : List ℕ) → Distinct xs → length (kept (eqb x) xs) ≤ 1
kept_one x [] d = omega arith
kept_one x (y ∷ xs) d =
    elim (cases_Bool (eqb x y)) [
      | inl e ↦ let same : x ≡ y = eqb-true x y e in let none = kept_none x xs (ap (has xs) same ∙ d.0) in rw e (omega arith)
      | inr e ↦ rw e (kept_one x xs d.1)
    ]

-- of a list without repetition, at most as many are in another as the other has
pub kept_few : (vs xs : List ℕ) → Distinct xs → length (kept (has vs) xs) ≤ length vs
kept_few [] xs d = none xs
  where
    none : (l : List ℕ) → length (kept (has []) l) ≤ 0
    none [] = omega arith
    none (x ∷ l) = none l
kept_few (v ∷ vs) xs d = omega (arith, kept_either (eqb v) (has vs) xs, kept_one v xs d, kept_few vs xs d)

pub but_less : (v : ℕ) (xs : List ℕ) → has xs v ≡ true → suc (length (kept (λ u. not (eqb u v)) xs)) ≤ length xs
but_less v [] h = grind arith
but_less v (x ∷ xs) h =
    elim (cases_Bool (eqb x v)) [
      | inl e ↦ rw e (omega (arith, most xs))
      | inr e ↦ rw e (omega (arith, but_less v xs (grind arith)))
    ]
  where
    most : (l : List ℕ) → length (kept (λ u. not (eqb u v)) l) ≤ length l
    most [] = omega arith
    most (y ∷ l) = cond_both (not (eqb y v)) (y ∷ kept (λ u. not (eqb u v)) l) (kept (λ u. not (eqb u v)) l) (λ k. length k ≤ suc (length l)) (λ _. omega (arith, most l)) (λ _. omega (arith, most l))

-- total lengths of scopes

abbrev pub lengths : List (List ℕ) → ℕ
lengths [] = 0
lengths (s ∷ ss) = length s + lengths ss

abbrev weight : {C : Type 0} → List (Function C) → ℕ
weight [] = 0
weight (f ∷ fs) = length f.scope + weight fs

lengths_append : (ss ts : List (List ℕ)) → lengths (ss ++ ts) ≡ lengths ss + lengths ts
lengths_append [] ts = omega arith
lengths_append (s ∷ ss) ts = omega (arith, lengths_append ss ts)

lengths_kept : (p : List ℕ → Bool) (ss : List (List ℕ)) → lengths (kept p ss) ≤ lengths ss
lengths_kept p [] = omega arith
lengths_kept p (s ∷ ss) = let ih = lengths_kept p ss in grind arith

-- those up to a bucket, and those in it
lengths_parted : (b : List ℕ → ℕ) (q : ℕ) (ss : List (List ℕ))
    → lengths (kept (λ s. leb (b s) (suc q)) ss) ≡ lengths (kept (λ s. leb (b s) q) ss) + lengths (kept (λ s. eqb (b s) (suc q)) ss)
lengths_parted b q [] = omega arith
lengths_parted b q (s ∷ ss) = let ih = lengths_parted b q ss in grind (arith, nat_tests)

weight_bare : (ss : List (List ℕ)) → weight (map bare ss) ≡ lengths ss
weight_bare [] = refl
weight_bare (s ∷ ss) = omega (arith, weight_bare ss)

module _ {C : Type 0} where
  weight_append : (fs gs : List (Function C)) → weight (fs ++ gs) ≡ weight fs + weight gs
  weight_append [] gs = omega arith
  weight_append (f ∷ fs) gs = omega (arith, weight_append fs gs)

  variables_few : (order : List ℕ) → Distinct order → (fs : List (Function C)) → length (variables order fs) ≤ weight fs
  variables_few order d [] = none order
    where
      none : (l : List ℕ) → length (kept (mentions {C = C} []) l) ≤ 0
      none [] = omega arith
      none (x ∷ l) = none l
  variables_few order d (f ∷ fs) = omega (arith, kept_either (has f.scope) (mentions fs) order, kept_few f.scope order d, variables_few order d fs)

  mentions_last : (b : List (Function C)) (f : Function C) (v : ℕ) → has f.scope v ≡ true → mentions (b ++ (f ∷ [])) v ≡ true
  mentions_last [] f v h = or_left (has f.scope v) false h
  mentions_last (g ∷ b) f v h = or_right (has g.scope v) _ (mentions_last b f v h)

  module _ (order : List ℕ) (w v : ℕ) where
    joined_all : (f : Function C) (bs : List (List (Function C))) → has f.scope v ≡ true → AllByRecursion (λ b. mentions b v ≡ true) bs → AllByRecursion (λ b. mentions b v ≡ true) (joined order w f bs)
    joined_all f [] h hs = (or_left (has f.scope v) false h, tt)
    joined_all f (b ∷ bs) h hs =
        cond_both (leb (length (variables order (b ++ (f ∷ [])))) w) ((b ++ (f ∷ [])) ∷ bs) (b ∷ joined order w f bs) (AllByRecursion (λ b. mentions b v ≡ true))
        (λ _. (mentions_last b f v h, hs.1)) (λ _. (hs.0, joined_all f bs h hs.1))

    split_all : (bs : List (List (Function C))) (fs : List (Function C)) → AllByRecursion (λ f. has f.scope v ≡ true) fs → AllByRecursion (λ b. mentions b v ≡ true) bs → AllByRecursion (λ b. mentions b v ≡ true) (split_from order w bs fs)
    split_all bs [] h hs = hs
    split_all bs (f ∷ fs) h hs = split_all (joined order w f bs) fs h.1 (joined_all f bs h.0 hs)

    joined_weight : (f : Function C) (bs : List (List (Function C))) → weight (flat (joined order w f bs)) ≡ length f.scope + weight (flat bs)
    joined_weight f [] = omega arith
    joined_weight f (b ∷ bs) =
        cond_both (leb (length (variables order (b ++ (f ∷ [])))) w) ((b ++ (f ∷ [])) ∷ bs) (b ∷ joined order w f bs) (λ l. weight (flat l) ≡ length f.scope + weight (b ++ flat bs))
        (λ _. omega (arith, weight_append (b ++ (f ∷ [])) (flat bs), weight_append b (f ∷ []), weight_append b (flat bs)))
        (λ _. omega (arith, weight_append b (flat (joined order w f bs)), joined_weight f bs, weight_append b (flat bs)))

    split_weight : (bs : List (List (Function C))) (fs : List (Function C)) → weight (flat (split_from order w bs fs)) ≡ weight (flat bs) + weight fs
    split_weight bs [] = omega arith
    split_weight bs (f ∷ fs) = omega (arith, split_weight (joined order w f bs) fs, joined_weight f bs)

    messages_less : Distinct order → has order v ≡ true → (bs : List (List (Function C))) → AllByRecursion (λ b. mentions b v ≡ true) bs → lengths (map (message_scope order v) bs) + length bs ≤ weight (flat bs)
    messages_less d hv [] hs = omega arith
    messages_less d hv (b ∷ bs) hs =
        let there : has (variables order b) v ≡ true = has_kept (mentions b) order v hs.0 hv in
        omega (arith, but_less v (variables order b) there, variables_few order d b, messages_less d hv bs hs.1, weight_append b (flat bs))

pub getD_has : (xs : List ℕ) (n : ℕ) → n < length xs → has xs (get_or xs n 0) ≡ true
getD_has [] n l = absurd (omega arith)
getD_has (x ∷ xs) zero l = or_left (eqb x x) (has xs x) (eq-eqb x x refl)
getD_has (x ∷ xs) (suc n) l = or_right (eqb x (get_or xs n 0)) (has xs (get_or xs n 0)) (getD_has xs n (omega arith))

module _ (order : List ℕ) (distinct : Distinct order) (w : ℕ) where
  -- what a bucket makes of scopes is less than what lay in it
  from_less : (p : ℕ) (ss : List (List ℕ)) → p < length order
      → lengths (scopes_from order w (suc p) ss) + length (scopes_from order w (suc p) ss) ≤ lengths (kept (λ s. eqb (bucket_of order s) (suc p)) ss)
  from_less p ss l =
      let back : suc p - 1 ≡ p = omega arith in
      let v : ℕ = get_or order p 0 in
      let lying : List (Function ℕ) = kept (lies_in order (suc p)) (map bare ss) in
      let minis : List (List (Function ℕ)) = split_from order w [] lying in
      let is : lying ≡ map bare (kept (λ s. eqb (bucket_of order s) (suc p)) ss) = kept_map bare (lies_in order (suc p)) ss in
      let each : AllByRecursion (λ (f : Function ℕ). has f.scope v ≡ true) lying = all_have p (map bare ss) in
      let less : lengths (map (message_scope order v) minis) + length minis ≤ weight (flat minis) =
      messages_less order w v distinct (getD_has order p l) minis (split_all order w v [] lying each tt) in
      let whole : weight (flat minis) ≡ weight lying = split_weight order w v [] lying ∙ omega arith in
      let scopes : weight lying ≡ lengths (kept (λ s. eqb (bucket_of order s) (suc p)) ss) = ap weight is ∙ weight_bare (kept (λ s. eqb (bucket_of order s) (suc p)) ss) in
      rw back (omega (arith, less, length-map minis (message_scope order v)))
    where
      all_have : (q : ℕ) (fs : List (Function ℕ)) → AllByRecursion (λ (f : Function ℕ). has f.scope (get_or order q 0) ≡ true) (kept (lies_in order (suc q)) fs)
      all_have q [] = tt
      all_have q (f ∷ fs) =
          cond_both (lies_in order (suc q) f) (f ∷ kept (lies_in order (suc q)) fs) (kept (lies_in order (suc q)) fs) (AllByRecursion (λ (g : Function ℕ). has g.scope (get_or order q 0) ≡ true))
          (λ e. (lies_has order q f.scope (eqb-true _ _ e), all_have q fs)) (λ _. all_have q fs)

  made_less : (ss : List (List ℕ)) (k : ℕ) → k ≤ length order
      → lengths (kept (λ s. leb (bucket_of order s) (length order - k)) (ss ++ scopes_made order w ss k)) + length (scopes_made order w ss k) ≤ lengths ss
  made_less ss zero l = omega (arith, lengths_kept (λ s. leb (bucket_of order s) (length order - 0)) (ss ++ []), lengths_append ss [])
  made_less ss (suc k) l =
      let q : ℕ = length order - suc k in
      let p : length order - k ≡ suc q = omega arith in
      let all : List (List ℕ) = ss ++ scopes_made order w ss k in
      let new : List (List ℕ) = scopes_from order w (suc q) all in
      let ih : lengths (kept (λ s. leb (bucket_of order s) (suc q)) all) + length (scopes_made order w ss k) ≤ lengths ss = rw p at (made_less ss k (omega arith)) in
      let regroup : kept (λ s. leb (bucket_of order s) q) (ss ++ (scopes_made order w ss k ++ new)) ≡ kept (λ s. leb (bucket_of order s) q) all ++ kept (λ s. leb (bucket_of order s) q) new =
      ap (kept (λ s. leb (bucket_of order s) q)) (sym (append_assoc ss (scopes_made order w ss k) new)) ∙ kept_append (λ s. leb (bucket_of order s) q) all new in
      rw p
      (omega (
        arith,
        ih,
        lengths_parted (bucket_of order) q all,
        from_less q all (omega arith),
        lengths_kept (λ s. leb (bucket_of order s) q) new,
        ap lengths regroup,
        lengths_append (kept (λ s. leb (bucket_of order s) q) all) (kept (λ s. leb (bucket_of order s) q) new),
        length-append (scopes_made order w ss k) new,
      ))

  pub made_few : (ss : List (List ℕ)) (k : ℕ) → k ≤ length order → length (scopes_made order w ss k) ≤ lengths ss
  made_few ss k l = omega (arith, made_less ss k l)

pub lengths_few : (ss : List (List ℕ)) → AllByRecursion (λ s. length s ≤ 5) ss → lengths ss ≤ 5 * length ss
lengths_few [] h = omega arith
lengths_few (s ∷ ss) h = omega (arith, lengths_few ss h.1, h.0)
