-- One content written into every cell of a part.
use Rattle.std.proofs.Common.{◌≡◌, ℕ, ◌+◌, ◌-◌, ◌≤◌, List, [], ◌∷◌, ◌++◌, length, take, drop, replicate, refl, sym, ap, ◌∙◌, ap₂, arith}
use borrow.Rule.Slice.PartMut.{put_mid}
use Rattle.std.specs.List.{FoldsTo}
use Rattle.std.proofs.lemmas.Slice.{put_mid-paste}
use Rattle.std.proofs.lemmas.List.Edits.{paste_all, length-between}
use Rattle.std.proofs.lemmas.List.{length-replicate}

-- what a call that always answers the same content fills
pub filled_alike : {F C : Type 0} (R : F → C → F → Type 0) (content : F → C) → ((f : F) (x : C) (f' : F) → R f x f' → (x ≡ content f) × (content f' ≡ content f))
    → (f last : F) (xs : List C) → FoldsTo R f xs last → xs ≡ replicate (length xs) (content f)
filled_alike R content alike f last [] h = refl
filled_alike R content alike f last (x ∷ xs) h =
    let one = alike f x h.0 h.1 in
    let rest = filled_alike R content alike h.0 last xs h.2 ∙ ap (replicate (length xs)) one.1 in
    ap₂ ◌∷◌ one.0 rest

-- the part from start to end of an area, filled and given back
pub filled_part : {C : Type 0} (cells : List C) (c : C) (part : List C) (start end n : ℕ) → end ≡ start + n → end ≤ length cells → part ≡ replicate (length (take (end - start) (drop start cells))) c
    → put_mid start (end - start) cells part ≡ take start cells ++ (replicate n c ++ drop end cells)
filled_part cells c part start end n e h filled =
    let long : length (take (end - start) (drop start cells)) ≡ n = length-between cells start end h ∙ omega arith in
    put_mid-paste start (end - start) cells part (replicate n c) n (filled ∙ ap (λ k. replicate k c) long) (omega arith) (sym (length-replicate n c))
    ∙ paste_all cells start (replicate n c) n (sym (length-replicate n c)) ∙ ap (λ k. take start cells ++ (replicate n c ++ drop k cells)) (sym e)
