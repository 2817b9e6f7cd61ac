-- Marked variables are those that functions name.
use Rattle.std.proofs.Common.{◌≡◌, ℕ, ◌+◌, ◌<◌, Bool, true, false, cond, not, ◌&&◌, ◌||◌, eqb, leb, List, [], ◌∷◌, ◌++◌, length, get_or, drop, set, Some, None, Ok, Err, Result, sym, refl, ap, ◌∙◌, ap₂, inl, inr, arith}
use Rattle.std.proofs.lemmas.List.{length-append, get_or-set_same, get_or-set_other, append_assoc}
use Rattle.std.proofs.lemmas.Bool.{cases_eq, eq-eqb, ne_eqb, not-true}
use Rattle.std.proofs.lemmas.Bool.Decides.{nat_tests}
use Rattle.variables.specs.Lists.{has}
use Rattle.problems.specs.Records.{Placed}
use Rattle.variables.specs.Rules.{chosen, barred}
use Rattle.variables.specs.Refusals.{Answers}
use Rattle.variables.specs.declared.refusal.Refusal.{Refusal}
use Rattle.variables.proofs.Listings.{chosen_push, known_append, distinct_front}
use Rattle.floors.specs.Settings.{kept}
use Rattle.buckets.specs.Joining.{names, joins}
use Rattle.buckets.proofs.Filters.{kept_agree, kept_kept}

-- the marks of two sets together, counted along the order, tell whether a function joins
pub joins_counted : (order : List ℕ) → ((v : ℕ) → has order v ≡ true → v < 32) → (w : ℕ) (ms : List Placed) (scope : List ℕ) (named both : List Bool) (n : ℕ) → (length ms ≡ 0 → ⊥)
    → ((v : ℕ) → v < 32 → get_or named v false ≡ names ms v) → ((v : ℕ) → v < 32 → get_or both v false ≡ (get_or named v false || has scope v))
    → n ≡ length (kept (λ v. get_or both v false) order) → leb n w ≡ joins order w ms scope
joins_counted order low w [] scope named both n some h k e = absurd (some refl)
joins_counted order low w (m ∷ ms) scope named both n some h k e =
    ap (λ i. leb i w) e ∙ ap (λ l. leb (length l) w) (kept_agree _ _ order (λ v in'. k v (low v in') ∙ ap (λ b. b || has scope v) (h v (low v in'))))

pub named_push : (ms : List Placed) (f : Placed) (scope : List ℕ) → scope ≡ f.scope → (named more : List Bool) → ((v : ℕ) → v < 32 → get_or named v false ≡ names ms v)
    → ((v : ℕ) → v < 32 → get_or more v false ≡ (get_or named v false || has scope v)) → (ms' : List Placed) → ms' ≡ ms ++ f ∷ [] → (v : ℕ) → v < 32 → get_or more v false ≡ names ms' v
named_push ms f scope s named more h k ms' e v l =
    k v l ∙ ap₂ ◌||◌ (h v l) (ap (λ x. has x v) s) ∙ sym (push ms) ∙ ap (λ (x : List Placed). names x v) (sym e)
  where
    push : (xs : List Placed) → names (xs ++ f ∷ []) v ≡ (names xs v || has f.scope v)
    push [] = grind arith
    push (x ∷ xs) = let ih = push xs in grind arith

-- one function more of those whose variables are marked
pub named_more : (fs : List Placed) (i : ℕ) (f : Placed) (scope : List ℕ) (v : ℕ) (before after whole : Bool) → scope ≡ f.scope → drop i fs ≡ f ∷ drop (i + 1) fs
    → (before || names (drop i fs) v) ≡ whole → after ≡ (before || has scope v) → (after || names (drop (i + 1) fs) v) ≡ whole
named_more fs i f scope v before after whole s next inv e =
    let step : names (drop i fs) v ≡ (has f.scope v || names (drop (i + 1) fs) v) = ap (λ (l : List Placed). names l v) next in
    let same = ap (λ x. has x v) s in
    grind arith

-- the marked variables but one, along the order
pub others_kept : (order : List ℕ) → ((v : ℕ) → has order v ≡ true → v < 32) → (p : ℕ → Bool) (named less : List Bool) (v : ℕ) → length named ≡ 32 → ((u : ℕ) → u < 32 → get_or named u false ≡ p u)
    → less ≡ set named v false → kept (λ u. get_or less u false) order ≡ kept (λ u. not (eqb u v)) (kept p order)
others_kept order low p named less v long h e =
    kept_agree _ _ order (λ u in'. ap (λ (l : List Bool). get_or l u false) e ∙ here u (low u in'))
    ∙ sym (kept_kept (λ u. not (eqb u v)) p (λ u. p u && not (eqb u v)) (λ u. refl) order)
  where
    here : (u : ℕ) → u < 32 → get_or (set named v false) u false ≡ (p u && not (eqb u v))
    here u l =
        elim (cases_eq u v) [
          | inl s ↦
              let t : eqb u v ≡ true = eq-eqb u v s in
              let slot : get_or (set named v false) u false ≡ false = rw s (get_or-set_same named v false false (omega arith)) in
              grind arith
          | inr n ↦
              let t : eqb u v ≡ false = ne_eqb u v n in
              let slot : get_or (set named v false) u false ≡ get_or named u false = get_or-set_other named v u false false n in
              let old = h u l in
              grind arith
        ]

chosen_front : (most n : ℕ) (us vs : List ℕ) → chosen most n (us ++ vs) ≡ true → chosen most n us ≡ true
chosen_front most n us vs h =
    let k = known_append n us vs in
    let d = distinct_front us vs in
    let l = length-append us vs in
    grind (arith, nat_tests)

-- a variable of a proper scope is not refused when its turn comes
pub not_barred : (most n : ℕ) (us : List ℕ) (u : ℕ) (vs whole : List ℕ) → us ++ (u ∷ vs) ≡ whole → chosen most n whole ≡ true → barred most n us u ≡ false
not_barred most n us u vs whole e h =
    let all : chosen most n (us ++ (u ∷ vs)) ≡ true = ap (chosen most n) e ∙ h in
    let more : chosen most n (us ++ u ∷ []) ≡ true = chosen_front most n (us ++ u ∷ []) vs (ap (chosen most n) (append_assoc us (u ∷ []) vs) ∙ all) in
    not-true (barred most n us u) (sym (chosen_push most n us u (chosen_front most n us (u ∷ vs) all)) ∙ more)

-- a call that is not refused is accepted
pub accepted : {A : Type 0} (when : Bool) (e : Refusal) (r : Result A Refusal) (Q L : Type 0) → when ≡ false → Answers (cond when (Some e) None) r (λ _. Q) L → Q
accepted when e (Ok x) Q L f h = h.1
accepted true e (Err x) Q L f h = grind arith
accepted false e (Err x) Q L f h = let bad : None ≡ Some x = h.0 in let z : ◌≡◌ {A = ℕ} 0 1 = cc in absurd (omega arith)
