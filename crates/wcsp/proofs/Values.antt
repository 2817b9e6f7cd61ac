-- One more value of a tuple.
use Rattle.std.proofs.Common.{◌≡◌, ℕ, ◌+◌, ◌<◌, true, cond, ltb, List, [], ◌∷◌, ◌++◌, length, get_or, take, drop, set, Ok, sym, ap, ◌∙◌, inl, inr, arith}
use Rattle.std.proofs.lemmas.List.{at_drop_more, take_more, get_or-set_same, get_or-set_other}
use Rattle.std.proofs.lemmas.Bool.{cases_eq, eq-eqb, ne_eqb}
use Rattle.variables.specs.Lists.{distinct}
use Rattle.variables.specs.Assignments.{along}
use Rattle.variables.specs.Rules.{fits}
use Rattle.variables.proofs.Tuples.{along_push, absent, fits_length}
use Rattle.variables.specs.declared.refusal.Refusal.TheVariants.{Tuple}
use Rattle.words.specs.Words.{Word}
use Rattle.words.specs.Readings.{Reading, and_then}
use Rattle.wcsp.specs.Rules.{value_rule}
use Rattle.words.specs.Ruled.{number_by}
use Rattle.wcsp.specs.Layouts.{tuple_from}
use Rattle.words.proofs.Rulings.{rule_kept, kept_true}

module _ (stop : ℕ) (sizes vs : List ℕ) (i : ℕ) (done : List ℕ) (words : List Word) (h : i < length vs) where
  abbrev one : Reading ℕ
  one = number_by stop (value_rule (get_or sizes (get_or vs i 0) 0)) words

  split : tuple_from stop sizes (drop i vs) done words ≡ and_then one (λ value ws. tuple_from stop sizes (drop (i + 1) vs) (done ++ value ∷ []) ws)
  split = at_drop_more (λ us. tuple_from stop sizes us done words) vs i 0 h

  pub value_more : (value : ℕ) (left : List Word) → one ≡ Ok (value, left) → tuple_from stop sizes (drop i vs) done words ≡ tuple_from stop sizes (drop (i + 1) vs) (done ++ value ∷ []) left
  value_more value left e = split ∙ ap (λ m. and_then m (λ value ws. tuple_from stop sizes (drop (i + 1) vs) (done ++ value ∷ []) ws)) e

  pub value_below : (value : ℕ) (left : List Word) → one ≡ Ok (value, left) → ltb value (get_or sizes (get_or vs i 0) 0) ≡ true
  value_below value left e = kept_true (ltb value (get_or sizes (get_or vs i 0) 0)) Tuple (rule_kept stop (value_rule (get_or sizes (get_or vs i 0) 0)) words value left e)

fits_push : (sizes us xs : List ℕ) (u x : ℕ) → fits sizes us xs ≡ true → ltb x (get_or sizes u 0) ≡ true → fits sizes (us ++ u ∷ []) (xs ++ x ∷ []) ≡ true
fits_push sizes [] [] u x h k = grind arith
fits_push sizes [] (y ∷ xs) u x h k = grind arith
fits_push sizes (w ∷ us) [] u x h k = grind arith
fits_push sizes (w ∷ us) (y ∷ xs) u x h k = let ih = fits_push sizes us xs u x in grind arith

-- the values so far, and one more
module _ (sizes vs done slots : List ℕ) (i x : ℕ) (h : i < length vs) (fit : fits sizes (take i vs) done ≡ true) (good : ltb x (get_or sizes (get_or vs i 0) 0) ≡ true) where
  pub fits_more : fits sizes (take (i + 1) vs) (done ++ x ∷ []) ≡ true
  fits_more = rw (take_more vs i 0 h) (fits_push sizes (take i vs) done (get_or vs i 0) x fit good)

  pub given_more : distinct vs ≡ true → get_or vs i 0 < length slots → ((v : ℕ) → get_or slots v 0 ≡ along (take i vs) done v)
      → (v : ℕ) → get_or (set slots (get_or vs i 0) x) v 0 ≡ along (take (i + 1) vs) (done ++ x ∷ []) v
  given_more d room before v =
      let u = get_or vs i 0 in
      let push = along_push (take i vs) done u x v (fits_length sizes (take i vs) done fit) (absent vs i h d) in
      rw (take_more vs i 0 h) (elim (cases_eq v u) [
        | inl e ↦ ap (λ w. get_or (set slots u x) w 0) e ∙ get_or-set_same slots u x 0 room ∙ sym (push ∙ ap (λ b. cond b x (along (take i vs) done v)) (eq-eqb u v (sym e)))
        | inr n ↦ get_or-set_other slots u v x 0 n ∙ before v ∙ sym (push ∙ ap (λ b. cond b x (along (take i vs) done v)) (ne_eqb u v (λ e. n (sym e))))
      ])
