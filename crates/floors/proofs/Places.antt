-- Places noted in slots, one more at a time.
use Rattle.std.proofs.Common.{◌≡◌, ℕ, ◌+◌, ◌<◌, List, length, get_or, set, ◌∙◌, inl, inr, arith}
use Rattle.std.proofs.lemmas.List.{get_or-set_same, get_or-set_other}
use Rattle.std.proofs.lemmas.Bool.{cases_eq}

-- one slot more is noted, of the first n
pub noted_more : (f : ℕ → ℕ) (n : ℕ) (xs : List ℕ) (i x : ℕ) → i < length xs → x ≡ f i → ((u : ℕ) → u < n → u < i → get_or xs u 0 ≡ f u)
    → (u : ℕ) → u < n → u < i + 1 → get_or (set xs i x) u 0 ≡ f u
noted_more f n xs i x h is before u few l = elim (cases_eq u i) [
  | inl e ↦ rw (e, get_or-set_same xs i x 0 h) is
  | inr n ↦ get_or-set_other xs i u x 0 n ∙ before u few (omega arith)
]
