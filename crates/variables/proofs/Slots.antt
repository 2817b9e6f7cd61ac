-- Arrays with slots past the last item in use.
use Rattle.std.proofs.Common.{◌≡◌, ℕ, zero, suc, ◌+◌, ◌<◌, ◌≤◌, List, length, get_or, take, set, replicate, sym, refl, ◌∙◌, inl, inr, arith}
use Rattle.std.proofs.lemmas.List.{get_or-set_same, get_or-set_other, set_past, get_or-take, get_or_past, length-take-le}
use Rattle.std.proofs.lemmas.Bool.{cases_eq, cases_lt}

-- an array of one content
pub same_slots : {X : Type 0} (n v : ℕ) (x : X) → get_or (replicate n x) v x ≡ x
same_slots zero v x = refl
same_slots (suc n) zero x = refl
same_slots (suc n) (suc v) x = same_slots n v x

-- what holds of the new content and of each old one holds of each after a write
pub each_after : {X : Type 0} (P : X → Type 0) (xs : List X) (i : ℕ) (x d : X) → P x → ((v : ℕ) → P (get_or xs v d)) → (v : ℕ) → P (get_or (set xs i x) v d)
each_after P xs i x d here old v = elim (cases_eq v i) [
  | inl e ↦ elim (cases_lt i (length xs)) [
    | inl h ↦ rw (e, get_or-set_same xs i x d h) here
    | inr h ↦ rw (set_past xs i x h) (old v)
  ]
  | inr n ↦ rw (get_or-set_other xs i v x d n) (old v)
]

-- a slot in use, read through the list of those in use, and one past them
pub in_use : {X : Type 0} (n : ℕ) (xs : List X) (v : ℕ) (d : X) → v < n → get_or (take n xs) v d ≡ get_or xs v d
in_use n xs v d h = get_or-take n xs v d h

-- a list copied into zeroed slots, one more of it
pub copied : (xs slots : List ℕ) (i : ℕ) → i < length xs → i < length slots → ((v : ℕ) → get_or slots v 0 ≡ get_or (take i xs) v 0)
    → (v : ℕ) → get_or (set slots i (get_or xs i 0)) v 0 ≡ get_or (take (i + 1) xs) v 0
copied xs slots i h l before v = elim (cases_eq v i) [
  | inl e ↦ rw (e, get_or-set_same slots i (get_or xs i 0) 0 l, get_or-take (i + 1) xs i 0 (omega arith))
  | inr n ↦ get_or-set_other slots i v (get_or xs i 0) 0 n ∙ before v ∙ elim (cases_lt v i) [
    | inl k ↦ get_or-take i xs v 0 k ∙ sym (get_or-take (i + 1) xs v 0 (omega arith))
    | inr k ↦ get_or_past (take i xs) v 0 (omega (arith, length-take-le i xs (omega arith))) ∙ sym (get_or_past (take (i + 1) xs) v 0 (omega (arith, length-take-le (i + 1) xs (omega arith))))
  ]
]
