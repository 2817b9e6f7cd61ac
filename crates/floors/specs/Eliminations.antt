-- Eliminating a variable by mini-buckets makes no assignment dearer, and leaves no function that has it.
use Rattle.std.specs.Prelude.{◌≡◌, ℕ, true, false, not, List, [], ◌∷◌, ◌++◌, map, length, ◌==◌, nat_le, slice_index, refl}
use Rattle.std.proofs.Common.{sym, ◌∙◌, ap, inl, inr, arith}
use Rattle.std.proofs.Math.Path.{fun_ext}
use Rattle.std.specs.List.{AllByRecursion}
use Rattle.std.proofs.lemmas.Bool.{cond_both, or_cases, or_right, or_from}
use Rattle.std.proofs.lemmas.Bool.Decides.{nat_tests}
use Rattle.costs.specs.Structures.{Structure, Lawful, total}
use Rattle.floors.specs.Leasts.{least_of}
use Rattle.variables.specs.Lists.{has}
use Rattle.variables.specs.Assignments.{Assignment}
use Rattle.problems.specs.Problems.{Function, cost_at}
use Rattle.floors.specs.Settings.{assign, values, kept, costs_at}
use Rattle.floors.specs.MiniBuckets.{mentions, variables, joined, split_from, eliminated, message, messages_of, left}
use Rattle.floors.specs.Orders.{Le, le_refl, le_trans, le_same, ge_same, le_equal, mono, unit_right, absorb, left_comm, total_append, total_parted, least_le}
use Rattle.floors.specs.Scopes.{upto_has, kept_has, has_kept, assign_self, costs_agree, Within, within_append, within_tail, within_kept, has_first, kept_lacks}
use Rattle.floors.specs.Tables.{Ranged, tabulate_at}

-- the mini-buckets of some functions have together what the functions have
module _ {C : Type 0} (order : List ℕ) (w : ℕ) where
  joined_within : (Q : ℕ → Type 0) (f : Function C) (bs : List (List (Function C))) → Within Q (f ∷ []) → AllByRecursion (Within Q) bs → AllByRecursion (Within Q) (joined order w f bs)
  joined_within Q f [] h hs = (h, tt)
  joined_within Q f (b ∷ bs) h hs =
      cond_both (nat_le (length (variables order (b ++ (f ∷ [])))) w) ((b ++ (f ∷ [])) ∷ bs) (b ∷ joined order w f bs) (AllByRecursion (Within Q))
      (λ _. (within_append Q b (f ∷ []) hs.0 h, hs.1)) (λ _. (hs.0, joined_within Q f bs h hs.1))

  pub split_within : (Q : ℕ → Type 0) (bs : List (List (Function C))) (fs : List (Function C)) → AllByRecursion (Within Q) bs → Within Q fs → AllByRecursion (Within Q) (split_from order w bs fs)
  split_within Q bs [] hs h = hs
  split_within Q bs (f ∷ fs) hs h =
      split_within Q (joined order w f bs) fs (joined_within Q f bs (λ v m. grind (arith, h v)) hs) (within_tail Q f fs h)

  module _ {K : Structure C} (L : Lawful K) (sizes : List ℕ) (a : Assignment) where
    abbrev totals : List (List (Function C)) → C
    totals bs = total K (map (costs_at K sizes a) bs)

    joined_total : (f : Function C) (bs : List (List (Function C))) → totals (joined order w f bs) ≡ K.combined (cost_at K sizes a f) (totals bs)
    joined_total f [] = unit_right L _ ∙ L.combined_stands (cost_at K sizes a f) K.neutral
    joined_total f (b ∷ bs) =
        let c : C = cost_at K sizes a f in
        let t : C = costs_at K sizes a b in
        let r : C = totals bs in
        let pushed : K.combined (costs_at K sizes a (b ++ (f ∷ []))) r ≡ K.combined c (K.combined t r) =
        L.commutative _ r ∙ sym (absorb L r _) ∙ ap (K.combined r) (total_append L (cost_at K sizes a) b (f ∷ []) ∙ ap (K.combined t) (unit_right L c) ∙ absorb L t c)
        ∙ simp (L.commutative, left_comm L) in
        cond_both (nat_le (length (variables order (b ++ (f ∷ [])))) w) ((b ++ (f ∷ [])) ∷ bs) (b ∷ joined order w f bs) (λ l. totals l ≡ K.combined c (K.combined t r))
        (λ _. pushed) (λ _. ap (K.combined t) (joined_total f bs) ∙ left_comm L t c r)

    split_total : (bs : List (List (Function C))) (fs : List (Function C)) → K.stands (totals (split_from order w bs fs)) ≡ K.combined (totals bs) (costs_at K sizes a fs)
    split_total bs [] = sym (unit_right L (totals bs))
    split_total bs (f ∷ fs) =
        split_total (joined order w f bs) fs ∙ ap (λ x. K.combined x (costs_at K sizes a fs)) (joined_total f bs) ∙ simp (L.associative, L.commutative)

module _ {C : Type 0} {K : Structure C} (L : Lawful K) (sizes order : List ℕ) where
  -- a message goes by its scope alone
  pub eliminated_agree : (v : ℕ) (b : List (Function C)) → Within (λ u. has order u ≡ true) b → (a c : Assignment)
      → ((u : ℕ) → has (kept (λ x. not (x == v)) (variables order b)) u ≡ true → a u ≡ c u) → eliminated K sizes v b a ≡ eliminated K sizes v b c
  eliminated_agree v b h a c same =
      ap (λ g. least_of K (map g (values sizes v))) (fun_ext (λ x. costs_agree K sizes b (assign a v x) (assign c v x) (λ u m.
      grind (arith, same u, has_kept (λ y. not (y == v)) (variables order b) u, has_kept (mentions b) order u m (h u m)))))

  -- at an assignment, a message is at most the functions that it came from
  message_le : (v : ℕ) (a : Assignment) → has order v ≡ true → Ranged sizes order a → (b : List (Function C)) → Within (λ u. has order u ≡ true) b
      → Le K (cost_at K sizes a (message K sizes order v b)) (costs_at K sizes a b)
  message_le v a hv ranged b h =
      let others : List ℕ = kept (λ u. not (u == v)) (variables order b) in
      let known : (u : ℕ) → has others u ≡ true → has order u ≡ true = λ u k. (kept_has (mentions b) order u (kept_has _ (variables order b) u k).1).1 in
      let read : cost_at K sizes a (message K sizes order v b) ≡ eliminated K sizes v b a =
      tabulate_at sizes others (eliminated K sizes v b) (λ u. 0) a K.neutral (λ u k. ranged u (known u k)) (λ c same. eliminated_agree v b h c a same) in
      let own : has (values sizes v) (a v) ≡ true = upto_has (slice_index sizes v) 0 (a v) (omega arith) (omega (arith, ranged v hv)) in
      le_trans L (le_equal L read)
      (le_trans L (least_le L (λ c. costs_at K sizes (assign a v c) b) (values sizes v) (a v) own) (le_equal L (ap (λ c. costs_at K sizes c b) (assign_self a v))))

  messages_le : (v : ℕ) (a : Assignment) → has order v ≡ true → Ranged sizes order a → (bs : List (List (Function C))) → AllByRecursion (Within (λ u. has order u ≡ true)) bs
      → Le K (costs_at K sizes a (map (message K sizes order v) bs)) (total K (map (costs_at K sizes a) bs))
  messages_le v a hv ranged [] hs = le_refl L K.neutral
  messages_le v a hv ranged (b ∷ bs) hs = mono L (message_le v a hv ranged b hs.0) (messages_le v a hv ranged bs hs.1)

  pub messages_within : (Q : ℕ → Type 0) (v : ℕ) (bs : List (List (Function C))) → AllByRecursion (Within Q) bs
      → Within (λ u. (has order u ≡ true) × Q u × ((v == u) ≡ false)) (map (message K sizes order v) bs)
  messages_within Q v [] hs u m = grind arith
  messages_within Q v (b ∷ bs) hs u m =
      elim (or_cases (has (kept (λ x. not (x == v)) (variables order b)) u) _ m) [
        | inl e ↦
            let other = kept_has (λ x. not (x == v)) (variables order b) u e in
            let some = kept_has (mentions b) order u other.1 in
            (some.1, hs.0 u some.0, grind (arith, nat_tests, other.0))
        | inr e ↦ messages_within Q v bs hs.1 u e
      ]

  module _ (w : ℕ) (fs : List (Function C)) (covered : Within (λ u. has order u ≡ true) fs) where
    -- every variable of what is left is of the order, and not eliminated
    pub left_within : (vs : List ℕ) → Within (λ u. (has order u ≡ true) × (has vs u ≡ false)) (left K sizes order w fs vs)
    left_within [] = λ u m. (covered u m, refl)
    left_within (v ∷ vs) =
        let rest = left_within vs in
        let Q : ℕ → Type 0 = λ u. (has order u ≡ true) × (has vs u ≡ false) in
        let kept-ones = kept (λ f. not (has f.scope v)) (left K sizes order w fs vs) in
        let taken = kept (λ f. has f.scope v) (left K sizes order w fs vs) in
        within_append (λ u. (has order u ≡ true) × (has (v ∷ vs) u ≡ false)) kept-ones (messages_of K sizes order w v (left K sizes order w fs vs))
        (λ u m. let q = within_kept Q _ (left K sizes order w fs vs) rest u m in (q.0, or_from (v == u) (has vs u) (kept_lacks v (left K sizes order w fs vs) u m) q.1))
        (λ u m.
        let q = messages_within Q v (split_from order w [] taken) (split_within order w Q [] taken tt (within_kept Q _ (left K sizes order w fs vs) rest)) u m in
        (q.0, or_from (v == u) (has vs u) q.2 q.1.1))

    -- eliminating one more variable makes nothing dearer
    left_le : (v : ℕ) (vs : List ℕ) (a : Assignment) → has order v ≡ true → Ranged sizes order a
        → Le K (costs_at K sizes a (left K sizes order w fs (v ∷ vs))) (costs_at K sizes a (left K sizes order w fs vs))
    left_le v vs a hv ranged =
        let rest = left K sizes order w fs vs in
        let taken = kept (λ f. has f.scope v) rest in
        let buckets = split_from order w [] taken in
        let inside : Within (λ u. has order u ≡ true) taken = within_kept (λ u. has order u ≡ true) _ rest (λ u m. (left_within vs u m).0) in
        let messages : Le K (costs_at K sizes a (map (message K sizes order v) buckets)) (costs_at K sizes a taken) =
        le_trans L (messages_le v a hv ranged buckets (split_within order w (λ u. has order u ≡ true) [] taken tt inside))
        (le_trans L (le_same L (split_total order w L sizes a [] taken)) (le_trans L (le_equal L (L.unit (costs_at K sizes a taken))) (ge_same L refl))) in
        le_trans L (le_same L (total_append L (cost_at K sizes a) (kept (λ f. not (has f.scope v)) rest) (messages_of K sizes order w v rest)))
        (le_trans L (mono L (le_refl L _) messages) (ge_same L (total_parted L (cost_at K sizes a) (λ f. has f.scope v) rest)))

    pub lefts_le : (us vs : List ℕ) (a : Assignment) → ((u : ℕ) → has us u ≡ true → has order u ≡ true) → Ranged sizes order a
        → Le K (costs_at K sizes a (left K sizes order w fs (us ++ vs))) (costs_at K sizes a (left K sizes order w fs vs))
    lefts_le [] vs a h ranged = le_refl L _
    lefts_le (u ∷ us) vs a h ranged =
        le_trans L (left_le u (us ++ vs) a (h u (has_first u us)) ranged) (lefts_le us vs a (λ x k. h x (or_right (u == x) _ k)) ranged)
