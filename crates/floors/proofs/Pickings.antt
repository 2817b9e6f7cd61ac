-- Which functions a loop over their numbers picks.
use Rattle.std.proofs.Common.{◌≡◌, ℕ, zero, suc, ◌+◌, ◌<◌, ◌≤◌, Bool, cond, leb, List, [], ◌∷◌, map, length, get_or, drop, Some, Option, sym, refl, ap, ◌∙◌, ap₂, add-one, arith}
use Rattle.std.proofs.lemmas.List.{drop_all}
use Rattle.std.proofs.lemmas.Bool.{le-leb, lt-leb}
use Rattle.costs.specs.Structures.{Structure}
use Rattle.costs.proofs.Totals.{folded}
use Rattle.variables.specs.Assignments.{Assignment}
use Rattle.problems.specs.Records.{Placed, nth, held, held_by}
use Rattle.floors.specs.Settings.{kept}
use Rattle.floors.specs.ByNumber.{bucket_of}
use Rattle.floors.specs.Sources.{bucket_in, picked}

picked_from : (bs : List ℕ) (p at k : ℕ) (fs : List Placed) (f : Placed) → nth fs k ≡ Some f
    → picked bs p at (drop k fs) ≡ cond (leb (get_or bs at 0) p) (f ∷ picked bs p (at + 1) (drop (k + 1) fs)) (picked bs p (at + 1) (drop (k + 1) fs))
picked_from bs p at k [] f e = grind arith
picked_from bs p at zero (g ∷ fs) f e = let same : g ≡ f = cc in ap (λ (h : Placed). cond (leb (get_or bs at 0) p) (h ∷ picked bs p (at + 1) fs) (picked bs p (at + 1) fs)) same
picked_from bs p at (suc k) (g ∷ fs) f e = let ih = picked_from bs p at k fs f e in rw (add-one (suc k)) (rw (add-one k) at ih)

pub nth_there : {A : Type 0} (xs : List A) (k : ℕ) → k < length xs → (x : A) × (nth xs k ≡ Some x)
nth_there [] k h = absurd (omega arith)
nth_there (x ∷ xs) zero h = (x, refl)
nth_there (x ∷ xs) (suc k) h = nth_there xs k (omega arith)

module _ {C : Type 0} (K : Structure C) (sizes : List ℕ) (area : List C) (a : Assignment) (bs : List ℕ) (p : ℕ) (fs : List Placed) where
  abbrev pub rest : C → ℕ → C
  rest sum k = folded K sum (map (held K sizes area a) (picked bs p k (drop k fs)))

  -- a function that counts, and one that does not
  pub picks : (sum cost : C) (k : ℕ) (whole : C) → k < length fs → get_or bs k 0 ≤ p → cost ≡ held_by K sizes area a (nth fs k) → rest sum k ≡ whole → rest (K.combined sum cost) (k + 1) ≡ whole
  picks sum cost k whole h low is before =
      let there = nth_there fs k h in
      let step = picked_from bs p k k fs there.0 there.1 in
      let here : cost ≡ held K sizes area a there.0 = is ∙ ap (λ (f : Option Placed). held_by K sizes area a f) there.1 in
      let open' : picked bs p k (drop k fs) ≡ there.0 ∷ picked bs p (k + 1) (drop (k + 1) fs) =
      step ∙ ap (λ (b : Bool). cond b (there.0 ∷ picked bs p (k + 1) (drop (k + 1) fs)) (picked bs p (k + 1) (drop (k + 1) fs))) (le-leb (get_or bs k 0) p low) in
      ap (λ (c : C). folded K (K.combined sum c) (map (held K sizes area a) (picked bs p (k + 1) (drop (k + 1) fs)))) here
      ∙ sym (ap (λ (gs : List Placed). folded K sum (map (held K sizes area a) gs)) open') ∙ before

  pub passes : (sum : C) (k : ℕ) (whole : C) → k < length fs → p < get_or bs k 0 → rest sum k ≡ whole → rest sum (k + 1) ≡ whole
  passes sum k whole h high before =
      let there = nth_there fs k h in
      let step = picked_from bs p k k fs there.0 there.1 in
      let over : picked bs p k (drop k fs) ≡ picked bs p (k + 1) (drop (k + 1) fs) =
      step ∙ ap (λ (b : Bool). cond b (there.0 ∷ picked bs p (k + 1) (drop (k + 1) fs)) (picked bs p (k + 1) (drop (k + 1) fs))) (lt-leb (get_or bs k 0) p high) in
      sym (ap (λ (gs : List Placed). folded K sum (map (held K sizes area a) gs)) over) ∙ before

  pub all_picked : (sum : C) (k : ℕ) (whole : C) → length fs ≤ k → rest sum k ≡ whole → sum ≡ whole
  all_picked sum k whole h before = sym (ap (λ (gs : List Placed). folded K sum (map (held K sizes area a) (picked bs p k gs))) (drop_all k fs h)) ∙ before

-- where the notes are right, they pick the functions of the first buckets
noted_from : (order bs : List ℕ) (p at : ℕ) (fs : List Placed) → ((k : ℕ) → k < length fs → get_or bs (at + k) 0 ≡ bucket_in order (nth fs k))
    → picked bs p at fs ≡ kept (λ f. leb (bucket_of order f.scope) p) fs
noted_from order bs p at [] h = refl
noted_from order bs p at (f ∷ fs) h =
    let here : get_or bs at 0 ≡ bucket_of order f.scope = ap (λ n. get_or bs n 0) (omega arith) ∙ h 0 (omega arith) in
    let later = noted_from order bs p (at + 1) fs (λ k l. ap (λ n. get_or bs n 0) (omega arith) ∙ h (suc k) (omega arith)) in
    ap₂ (λ (n : ℕ) (gs : List Placed). cond (leb n p) (f ∷ gs) gs) here later

pub noted_picked : (order bs : List ℕ) (p : ℕ) (fs : List Placed) → ((k : ℕ) → k < length fs → get_or bs k 0 ≡ bucket_in order (nth fs k))
    → picked bs p 0 fs ≡ kept (λ f. leb (bucket_of order f.scope) p) fs
noted_picked order bs p fs h = noted_from order bs p 0 fs (λ k l. ap (λ n. get_or bs n 0) (omega arith) ∙ h k l)
