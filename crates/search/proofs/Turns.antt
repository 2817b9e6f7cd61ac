-- A run, visit by visit: what was made and what is still allowed come to the whole.
use Rattle.std.proofs.Common.{◌≡◌, ℕ, zero, suc, ◌+◌, ◌-◌, ◌<◌, true, false, List, sym, refl, ap, ◌∙◌, add-zero, zero-add, arith}
use native.Mathlib.Nat.{sub-zero}
use Rattle.costs.specs.Structures.{Structure}
use Rattle.problems.specs.Problems.{Problem}
use Rattle.search.specs.Searches.{Search, Ran, ran, ended, visited}

-- visits made before, counted
abbrev pub beyond : {C : Type 0} → ℕ → Ran C → Ran C
beyond made r = record { visits = made + r.visits; search = r.search }

module _ {C : Type 0} (K : Structure C) (p : Problem C) (floor : List ℕ → C) where
  pub begun : (budget : ℕ) (s : Search C) → ran K p floor budget s ≡ beyond 0 (ran K p floor (budget - 0) s)
  begun budget s =
      let r : Ran C = ran K p floor budget s in
      let same : r ≡ beyond 0 r = ap (λ n. record { visits = n; search = r.search }) (sym (zero-add r.visits)) in
      same ∙ ap (λ n. beyond 0 (ran K p floor n s)) (sym (sub-zero budget))

  one_more : (k : ℕ) (s : Search C) → ended p.sizes p.order s.spot ≡ false
      → ran K p floor (suc k) s ≡ record { visits = suc (ran K p floor k (visited K p floor s)).visits; search = (ran K p floor k (visited K p floor s)).search }
  one_more k s goes = rw (goes, ran)

  no_more : (k : ℕ) (s : Search C) → ended p.sizes p.order s.spot ≡ true → ran K p floor k s ≡ record { visits = 0; search = s }
  no_more zero s e = refl
  no_more (suc k) s e = rw (e, ran)

  module _ (whole : Ran C) (budget made : ℕ) (s : Search C) (so_far : whole ≡ beyond made (ran K p floor (budget - made) s)) where
    pub again : made < budget → ended p.sizes p.order s.spot ≡ false → (t : Search C) → visited K p floor s ≡ t → whole ≡ beyond (made + 1) (ran K p floor (budget - (made + 1)) t)
    again l goes t visit =
        let k = budget - (made + 1) in
        let left : budget - made ≡ suc k = omega arith in
        let rest : Ran C = ran K p floor k (visited K p floor s) in
        let count : made + suc rest.visits ≡ made + 1 + rest.visits = omega arith in
        so_far ∙ ap (λ n. beyond made (ran K p floor n s)) left ∙ ap (beyond made) (one_more k s goes)
        ∙ ap (λ n. record { visits = n; search = rest.search }) count ∙ ap (λ (u : Search C). beyond (made + 1) (ran K p floor k u)) visit

    pub stopped : ended p.sizes p.order s.spot ≡ true → whole ≡ record { visits = made; search = s }
    stopped e = so_far ∙ ap (beyond made) (no_more (budget - made) s e) ∙ ap (λ n. record { visits = n; search = s }) (add-zero made)

    pub spent : budget ≡ made → whole ≡ record { visits = budget; search = s }
    spent e =
        let none : budget - made ≡ 0 = omega arith in
        so_far ∙ ap (λ n. beyond made (ran K p floor n s)) none ∙ ap (λ n. record { visits = n; search = s }) (add-zero made ∙ sym e)
