-- What comes before a position of a search, and how many prefixes are left from it on.
-- A position is a reversed prefix: the value to visit next, and then the path.
use Rattle.std.proofs.Common.{◌≡◌, ℕ, suc, ◌+◌, ◌-◌, ◌*◌, ◌<◌, ◌≤◌, true, ◌⊎◌, List, [], ◌∷◌, ◌++◌, reverse, length, get_or, take, drop, ap, inl, inr, ⊎_elim, suc-mul, arith, drop-cons, take-suc}
use mathlib.Core.List.{reverse-cons}
use Rattle.std.proofs.lemmas.Bool.{false≢true}
use Rattle.std.proofs.lemmas.List.{length-reverse, get_or_append_left, get_or_at}
use Rattle.std.proofs.lemmas.Bool.Decides.{nat_tests}
use Rattle.search.specs.Searches.{size_at, fit}
use Rattle.search.specs.Finds.{earlier, prefixes}

-- x begins with the path, whose last value stands first
abbrev pub Follows : List ℕ → List ℕ → Type 0
Follows x path = take (length path) x ≡ reverse path

-- where x first differs from the path, it is smaller
abbrev pub Older : List ℕ → List ℕ → Type 0
Older x [] = ⊥
Older x (v ∷ path) = (Follows x path × (get_or x (length path) 0 < v)) ⊎ Older x path

-- what one value more adds
pub older_more : (x path : List ℕ) (v : ℕ) → length path < length x → Older x (suc v ∷ path) → Older x (v ∷ path) ⊎ Follows x (v ∷ path)
older_more x path v h o = grind (arith, take-suc x (length path) 0 h, reverse-cons v path)

-- where the values below one are used up, it stands for the next of the value before
pub older_back : (x path : List ℕ) (v next : ℕ) → length path < length x → get_or x (suc (length path)) 0 < next → Older x (suc v ∷ path) → Older x (next ∷ (v ∷ path))
older_back x path v next l h o = ⊎_elim (λ older. inr older) (λ follows. inl (follows, h)) (older_more x path v l o)

earlier_nil : (x : List ℕ) → earlier x [] ≡ true → ⊥
earlier_nil [] h = false≢true h
earlier_nil (a ∷ x) h = false≢true h

earlier_push : (x zs : List ℕ) (v : ℕ) → length zs < length x → earlier x (zs ++ (v ∷ [])) ≡ true → (earlier x zs ≡ true) ⊎ ((take (length zs) x ≡ zs) × (get_or x (length zs) 0 < v))
earlier_push [] zs v l h = absurd (omega arith)
earlier_push (a ∷ x) [] v l h = grind (arith, earlier_nil)
earlier_push (a ∷ x) (z ∷ zs) v l h = let ih = earlier_push x zs v (omega arith) in grind arith

pub older_from_earlier : (x path : List ℕ) → length path ≤ length x → earlier x (reverse path) ≡ true → Older x path
older_from_earlier x [] l h = earlier_nil x h
older_from_earlier x (v ∷ path) l h =
    let pushed = earlier_push x (reverse path) v (rw length-reverse l) (rw reverse-cons at h) in
    ⊎_elim (λ e. inr (older_from_earlier x path (omega arith) e)) (λ both. inl (rw length-reverse at both)) pushed

module _ (sizes order : List ℕ) where
  pub fit_at : (path : List ℕ) → fit sizes order path ≡ true → (d : ℕ) → d < length path → get_or (reverse path) d 0 < size_at sizes order d
  fit_at [] fits d h = absurd (omega arith)
  fit_at (v ∷ path) fits d h =
      let ih = fit_at path in
      rw reverse-cons (grind (arith, nat_tests, length-reverse path, get_or_append_left (reverse path) (v ∷ []) 0 d, get_or_at (reverse path) v [] 0 d))

  -- how many prefixes begin with a given one of d values
  abbrev pub rest : ℕ → ℕ
  rest d = suc (prefixes sizes (drop d order))

  pub rest_more : (d : ℕ) → d < length order → rest d ≡ suc (size_at sizes order d * rest (suc d))
  rest_more d h = ap (λ l. suc (prefixes sizes l)) (drop-cons order d 0 h)

  -- how many prefixes come after the last of those that begin with the path
  abbrev pub after : List ℕ → ℕ
  after [] = 0
  after (v ∷ path) = (size_at sizes order (length path) - suc v) * rest (suc (length path)) + after path

  abbrev pub left : List ℕ → ℕ → ℕ
  left path next = (size_at sizes order (length path) - next) * rest (suc (length path)) + after path

  pub left_more : (path : List ℕ) (next : ℕ) → next < size_at sizes order (length path) → left path next ≡ rest (suc (length path)) + left path (suc next)
  left_more path next h = step (size_at sizes order (length path)) next (rest (suc (length path))) (after path) h
    where
      step : (a b r q : ℕ) → b < a → (a - b) * r + q ≡ r + ((a - suc b) * r + q)
      step a b r q h = let e : a - b ≡ suc (a - suc b) = omega arith in rw (e, suc-mul) (omega arith)
