-- Lists of variables, put together.
use Rattle.std.proofs.Common.{◌≡◌, ℕ, ◌+◌, ◌<◌, true, false, not, ◌&&◌, ◌||◌, eqb, List, [], ◌∷◌, ◌++◌, length, get_or, take, drop, sym, refl, ap, ◌∙◌, inl, inr, arith}
use Rattle.std.proofs.lemmas.List.{length-append, take-append-drop, take_more}
use Rattle.std.proofs.lemmas.Bool.{cases_Bool, both_ways}
use Rattle.std.proofs.lemmas.Bool.Decides.{nat_tests}
use Rattle.std.specs.List.{list_any}
use Rattle.variables.specs.Lists.{has, known, distinct}
use Rattle.variables.specs.Rules.{chosen, barred}

pub has_any : (vs : List ℕ) (v : ℕ) → has vs v ≡ list_any (λ u. eqb u v) vs
has_any [] v = refl
has_any (u ∷ us) v = ap (λ b. eqb u v || b) (has_any us v)

pub has_append : (us vs : List ℕ) (v : ℕ) → has (us ++ vs) v ≡ (has us v || has vs v)
has_append [] vs v = refl
has_append (u ∷ us) vs v = let ih = has_append us vs v in grind arith

pub known_append : (n : ℕ) (us vs : List ℕ) → known n (us ++ vs) ≡ (known n us && known n vs)
known_append n [] vs = refl
known_append n (u ∷ us) vs = let ih = known_append n us vs in grind arith

pub distinct_push : (us : List ℕ) (v : ℕ) → distinct (us ++ v ∷ []) ≡ (distinct us && not (has us v))
distinct_push [] v = refl
distinct_push (u ∷ us) v = let ih = distinct_push us v in let h = has_append us (v ∷ []) u in grind (arith, nat_tests)

pub distinct_front : (us vs : List ℕ) → distinct (us ++ vs) ≡ true → distinct us ≡ true
distinct_front [] vs h = refl
distinct_front (u ∷ us) vs h = let ih = distinct_front us vs in let k = has_append us vs u in grind arith

-- one variable more
pub chosen_push : (most n : ℕ) (us : List ℕ) (v : ℕ) → chosen most n us ≡ true → chosen most n (us ++ v ∷ []) ≡ not (barred most n us v)
chosen_push most n us v h =
    let k = known_append n us (v ∷ []) in
    let d = distinct_push us v in
    let l = length-append us (v ∷ []) in
    grind (arith, nat_tests)

chosen_front : (most n : ℕ) (us vs : List ℕ) → chosen most n (us ++ vs) ≡ true → chosen most n us ≡ true
chosen_front most n us vs h =
    let k = known_append n us vs in
    let d = distinct_front us vs in
    let l = length-append us vs in
    grind (arith, nat_tests)

-- a list that stops being a choice at a variable is none
pub not_chosen : (most n : ℕ) (vs : List ℕ) (i : ℕ) → i < length vs → chosen most n (take i vs) ≡ true
    → barred most n (take i vs) (get_or vs i 0) ≡ true → chosen most n vs ≡ false
not_chosen most n vs i h before bad =
    let more = take_more vs i 0 h in
    let push = chosen_push most n (take i vs) (get_or vs i 0) before in
    let whole = take-append-drop (i + 1) vs in
    let front = chosen_front most n (take (i + 1) vs) (drop (i + 1) vs) in
    elim (cases_Bool (chosen most n vs)) [
      | inl e ↦
          let there : chosen most n (take (i + 1) vs) ≡ true = front (ap (chosen most n) whole ∙ e) in
          let here : chosen most n (take i vs ++ get_or vs i 0 ∷ []) ≡ true = rw more at there in
          absurd (both_ways (chosen most n (take i vs ++ get_or vs i 0 ∷ [])) (push ∙ ap not bad) here)
      | inr e ↦ e
    ]

-- one turn of a loop that puts one variable after the other into slots
module _ (most n : ℕ) (vs kept : List ℕ) (i : ℕ) (h : i < length vs) (same : kept ≡ take i vs) (before : chosen most n (take i vs) ≡ true) where
  pub turn_refused : barred most n kept (get_or vs i 0) ≡ true → chosen most n vs ≡ false
  turn_refused bad = not_chosen most n vs i h before (rw same at bad)

  pub turn_taken : barred most n kept (get_or vs i 0) ≡ false → chosen most n (take (i + 1) vs) ≡ true
  turn_taken good = rw (take_more vs i 0 h) (chosen_push most n (take i vs) (get_or vs i 0) before ∙ ap not (rw same at good))

  pub turn_same : (kept' : List ℕ) → kept' ≡ kept ++ get_or vs i 0 ∷ [] → kept' ≡ take (i + 1) vs
  turn_same kept' e = e ∙ ap (λ us. us ++ get_or vs i 0 ∷ []) same ∙ sym (take_more vs i 0 h)
