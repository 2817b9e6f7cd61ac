-- A copy of at most so many bytes.
use Rattle.std.proofs.Common.{◌≡◌, ℕ, ◌-◌, min, List, ◌++◌, length, take, drop, ap, ◌∙◌, arith, length-take}
use native.Mathlib.Nat.{sub-zero}
use Rattle.std.proofs.lemmas.List.{same_lists, places, take_at}

-- as many as there are, and no more than most
front : (most : ℕ) (xs : List ℕ) → take (min (length xs) most) xs ≡ take most xs
front most xs = same_lists _ _ (simp length-take (omega arith)) (λ k d h. grind (arith, places))

pub copied : (most n : ℕ) (xs ys rest : List ℕ) → n ≡ min (length xs) most → ys ≡ take (n - 0) (drop 0 xs) → take n (ys ++ rest) ≡ take most xs
copied most n xs ys rest e f =
    let whole : ys ≡ take n xs = f ∙ ap (λ (k : ℕ). take k xs) (sub-zero n) in
    let long : length ys ≡ n = ap length whole ∙ simp length-take (omega arith) in
    take_at ys rest n long ∙ whole ∙ ap (λ (k : ℕ). take k xs) e ∙ front most xs
