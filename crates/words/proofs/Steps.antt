-- Reading a list, item by item.
use Rattle.std.proofs.Common.{◌≡◌, ℕ, suc, ◌+◌, ◌-◌, ◌<◌, List, [], ◌∷◌, ◌++◌, Ok, Err, ap, ◌∙◌, arith}
use Rattle.words.specs.declared.fault.Fault.{Fault}
use Rattle.words.specs.Words.{Word}
use Rattle.words.specs.Readings.{Reading, and_then}

-- `all k done words` reads k more items by `one`, and puts them behind those done
module _ {X : Type 0} (all : ℕ → List X → List Word → Reading (List X)) (one : List X → List Word → Reading X)
    (step : (k : ℕ) (done : List X) (ws : List Word) → all (suc k) done ws ≡ and_then (one done ws) (λ x ws'. all k (done ++ x ∷ []) ws'))
    (count i : ℕ) (done : List X) (words : List Word) where
  split : i < count → all (count - i) done words ≡ and_then (one done words) (λ x ws. all (count - (i + 1)) (done ++ x ∷ []) ws)
  split h =
      let k : count - i ≡ suc (count - (i + 1)) = omega arith in
      ap (λ n. all n done words) k ∙ step (count - (i + 1)) done words

  pub one_more : (x : X) (left : List Word) → i < count → one done words ≡ Ok (x, left) → all (count - i) done words ≡ all (count - (i + 1)) (done ++ x ∷ []) left
  one_more x left h e = split h ∙ ap (λ m. and_then m (λ x ws. all (count - (i + 1)) (done ++ x ∷ []) ws)) e

  pub one_fault : (e : Fault) → i < count → one done words ≡ Err e → all (count - i) done words ≡ Err e
  one_fault e h k = split h ∙ ap (λ m. and_then m (λ x ws. all (count - (i + 1)) (done ++ x ∷ []) ws)) k
