-- What is eliminated one after the other, and its reverse, is an order.
use Rattle.std.proofs.Common.{◌≡◌, ℕ, zero, suc, ◌+◌, ◌-◌, ◌<◌, true, false, cond, ltb, List, [], ◌∷◌, ◌++◌, reverse, length, sym, refl, ap, ◌∙◌, append_assoc, arith}
use Rattle.std.proofs.lemmas.List.{length-reverse, reverse-append, nil_from_length}
use Rattle.std.proofs.lemmas.Bool.{cond_both}
use Rattle.std.proofs.lemmas.Bool.Decides.{nat_tests}
use Rattle.std.specs.List.{range_with_len}
use Rattle.std.proofs.lemmas.List.FromFn.{length-range_with_len}
use Rattle.variables.specs.Lists.{has, known, distinct}
use Rattle.problems.specs.Outlines.{Outline}
use Rattle.variables.specs.Rules.{is_order}
use Rattle.variables.proofs.Listings.{has_append, distinct_push}
use Rattle.orders.specs.Cliques.{neighbours, fill, fewest, fewest_from, others, scopes}
use Rattle.orders.specs.Orders.{numbered, eliminated, min_fill}

numbered_before : (a n u : ℕ) → u < a → has (range_with_len a n) u ≡ false
numbered_before a zero u h = refl
numbered_before a (suc n) u h = let ih = numbered_before (a + 1) n u (omega arith) in grind (arith, nat_tests)

numbered_distinct : (a n : ℕ) → distinct (range_with_len a n) ≡ true
numbered_distinct a zero = refl
numbered_distinct a (suc n) =
    let ih = numbered_distinct (a + 1) n in
    let before = numbered_before (a + 1) n a (omega arith) in
    grind (arith, nat_tests)

numbered_below : (a n u : ℕ) → has (range_with_len a n) u ≡ true → u < a + n
numbered_below a zero u h = absurd (let z : true ≡ false = sym h in grind arith)
numbered_below a (suc n) u h = let ih = numbered_below (a + 1) n u in grind (arith, nat_tests)

known_from : (n : ℕ) (us : List ℕ) → ((u : ℕ) → has us u ≡ true → u < n) → known n us ≡ true
known_from n [] h = refl
known_from n (u ∷ us) h =
    let ih = known_from n us (λ w t. h w (grind (arith, nat_tests))) in
    let here = h u (grind (arith, nat_tests)) in
    grind (arith, nat_tests)

order_from : (n : ℕ) (us : List ℕ) → length us ≡ n → distinct us ≡ true → ((u : ℕ) → has us u ≡ true → u < n) → is_order n us ≡ true
order_from n us long apart within = let k = known_from n us within in grind (arith, nat_tests)

pub numbered_order : (n : ℕ) → is_order n (numbered n) ≡ true
numbered_order n = order_from n (numbered n) (length-range_with_len 0 n) (numbered_distinct 0 n) (λ u h. let below = numbered_below 0 n u h in omega arith)

fewest_in : (cs : List (List ℕ)) (left rest : List ℕ) (best : ℕ) → has left best ≡ true → ((u : ℕ) → has rest u ≡ true → has left u ≡ true)
    → has left (fewest_from cs left best rest) ≡ true
fewest_in cs left [] best here within = here
fewest_in cs left (v ∷ vs) best here within =
    let there = within v (grind (arith, nat_tests)) in
    let next : has left (cond (ltb (fill cs left v) (fill cs left best)) v best) ≡ true =
    cond_both (ltb (fill cs left v) (fill cs left best)) v best (λ (x : ℕ). has left x ≡ true) (λ _. there) (λ _. here) in
    fewest_in cs left vs _ next (λ u t. within u (grind (arith, nat_tests)))

pub fewest_has : (cs : List (List ℕ)) (left : List ℕ) (n : ℕ) → length left ≡ suc n → has left (fewest cs left) ≡ true
fewest_has cs [] n h = absurd (omega arith)
fewest_has cs (u ∷ us) n h = fewest_in cs (u ∷ us) (u ∷ us) u (grind (arith, nat_tests)) (λ w t. t)

others_has : (us : List ℕ) (v u : ℕ) → has (others us v) u ≡ true → has us u ≡ true
others_has [] v u h = h
others_has (w ∷ us) v u h = let ih = others_has us v u in grind (arith, nat_tests)

others_lacks : (us : List ℕ) (v : ℕ) → has (others us v) v ≡ false
others_lacks [] v = refl
others_lacks (w ∷ us) v = let ih = others_lacks us v in grind (arith, nat_tests)

others_distinct : (us : List ℕ) (v : ℕ) → distinct us ≡ true → distinct (others us v) ≡ true
others_distinct [] v h = refl
others_distinct (w ∷ us) v h = let ih = others_distinct us v in let k = others_has us v w in grind (arith, nat_tests)

others_same : (us : List ℕ) (v : ℕ) → has us v ≡ false → others us v ≡ us
others_same [] v h = refl
others_same (w ∷ us) v h = let ih = others_same us v in grind (arith, nat_tests)

others_length : (us : List ℕ) (v n : ℕ) → distinct us ≡ true → has us v ≡ true → length us ≡ suc n → length (others us v) ≡ n
others_length [] v n d h e = absurd (omega arith)
others_length (w ∷ us) v zero d h e = let same = others_same us v in let long = nil_from_length us (omega arith) in grind (arith, nat_tests)
others_length (w ∷ us) v (suc n) d h e = let ih = others_length us v n in let same = others_same us v in grind (arith, nat_tests)

eliminated_length : (n : ℕ) (cs : List (List ℕ)) (left : List ℕ) → length (eliminated n cs left) ≡ n
eliminated_length zero cs left = refl
eliminated_length (suc n) cs left = ap suc (eliminated_length n _ _)

eliminated_has : (n : ℕ) (cs : List (List ℕ)) (left : List ℕ) → length left ≡ n → distinct left ≡ true → (u : ℕ) → has (eliminated n cs left) u ≡ true → has left u ≡ true
eliminated_has zero cs left long apart u h = absurd (let z : true ≡ false = sym h in grind arith)
eliminated_has (suc n) cs left long apart u h =
    let v : ℕ = fewest cs left in
    let here = fewest_has cs left n long in
    let ih = eliminated_has n (cs ++ neighbours cs left v ∷ []) (others left v) (others_length left v n apart here long) (others_distinct left v apart) u in
    let back = others_has left v u in
    grind (arith, nat_tests)

eliminated_distinct : (n : ℕ) (cs : List (List ℕ)) (left : List ℕ) → length left ≡ n → distinct left ≡ true → distinct (eliminated n cs left) ≡ true
eliminated_distinct zero cs left long apart = refl
eliminated_distinct (suc n) cs left long apart =
    let v : ℕ = fewest cs left in
    let here = fewest_has cs left n long in
    let cs' : List (List ℕ) = cs ++ neighbours cs left v ∷ [] in
    let short = others_length left v n apart here long in
    let apart' = others_distinct left v apart in
    let ih = eliminated_distinct n cs' (others left v) short apart' in
    let gone = others_lacks left v in
    let back = eliminated_has n cs' (others left v) short apart' v in
    grind (arith, nat_tests)

-- one variable more
pub eliminated_turn : (n k v : ℕ) (cs cs' : List (List ℕ)) (left left' gone gone' whole : List ℕ) → k < n → v ≡ fewest cs left → cs' ≡ cs ++ neighbours cs left v ∷ [] → left' ≡ others left v
    → gone' ≡ gone ++ v ∷ [] → gone ++ eliminated (n - k) cs left ≡ whole → gone' ++ eliminated (n - (k + 1)) cs' left' ≡ whole
eliminated_turn n k v cs cs' left left' gone gone' whole h next more rest put before =
    let e : n - k ≡ suc (n - (k + 1)) = omega arith in
    let front : eliminated (suc (n - (k + 1))) cs left ≡ v ∷ eliminated (n - (k + 1)) cs' left' = rw (more, rest, next) refl in
    let more' = append_assoc gone (v ∷ []) (eliminated (n - (k + 1)) cs' left') in
    cc

reverse-cons : (u : ℕ) (us : List ℕ) → reverse (u ∷ us) ≡ reverse us ++ u ∷ []
reverse-cons u us = reverse-append (u ∷ []) us

has_reverse : (us : List ℕ) (u : ℕ) → has (reverse us) u ≡ has us u
has_reverse [] u = refl
has_reverse (w ∷ us) u =
    let ih = has_reverse us u in
    let e = has_append (reverse us) (w ∷ []) u in
    ap (λ vs. has vs u) (reverse-cons w us) ∙ grind (arith, nat_tests)

distinct_reverse : (us : List ℕ) → distinct us ≡ true → distinct (reverse us) ≡ true
distinct_reverse [] h = refl
distinct_reverse (w ∷ us) h =
    let ih = distinct_reverse us in
    let e = distinct_push (reverse us) w in
    let k = has_reverse us w in
    ap distinct (reverse-cons w us) ∙ grind (arith, nat_tests)

pub min_fill_order : (o : Outline) → is_order (length o.sizes) (min_fill o) ≡ true
min_fill_order o =
    let n : ℕ = length o.sizes in
    let us : List ℕ = eliminated n (scopes o.functions) (numbered n) in
    order_from n (reverse us) (length-reverse us ∙ eliminated_length n _ _) (distinct_reverse us (eliminated_distinct n _ _ (length-range_with_len 0 n) (numbered_distinct 0 n)))
    (λ u h. let below = numbered_below 0 n u (eliminated_has n _ _ (length-range_with_len 0 n) (numbered_distinct 0 n) u (sym (has_reverse us u) ∙ h)) in omega arith)
