-- From what the parts of `report` did to what it promises.
use Rattle.std.proofs.Common.{◌≡◌, ℕ, zero, suc, ◌+◌, ◌<◌, true, eqb, List, [], ◌∷◌, ◌++◌, map, length, get_or, drop, set, is_some, Some, None, Option, sym, refl, ap, ◌∙◌, subst, ap₂, append_assoc, append-nil, arith}
use Rattle.std.specs.Option.{option_map}
use Rattle.std.proofs.lemmas.List.{drop_more, drop_all, set_at, map_push, length-map}
use Rattle.std.proofs.lemmas.Bool.{not-false, eqb-true}
use Rattle.std.proofs.lemmas.Bool.Decides.{nat_tests}
use Rattle.variables.specs.declared.plain.Setting.{Setting}
use Rattle.variables.specs.Lists.{has}
use Rattle.variables.specs.Assignments.{along, of}
use Rattle.problems.specs.Problems.{Problem}
use Rattle.variables.specs.Records.{values_of}
use Rattle.floors.specs.Settings.{Formed, upto}
use Rattle.floors.specs.Shapes.{shaped}
use Rattle.floors.specs.Covers.{covers}
use Rattle.costs.specs.Structures.{Structure}
use Rattle.variables.specs.Refusals.{first_of}
use Rattle.problems.specs.Outlines.{problem}
use Rattle.variables.proofs.Rows.{no_row}
use Rattle.floors.specs.Rules.{Rules, Told}
use Rattle.jobs.specs.declared.answer.Verdict.{Verdict}
use Rattle.jobs.specs.declared.job.Job.{Job}
use Rattle.jobs.specs.Standings.{standing}
use Rattle.jobs.specs.Planning.{buffer_rows, listed, listing, written, verdict_of, Reports}
use Rattle.jobs.proofs.Forms.{none_fits}

upto_long : (from n : ℕ) → length (upto from n) ≡ n
upto_long from zero = refl
upto_long from (suc n) = ap suc (upto_long (suc from) n)

upto_push : (from n : ℕ) → upto from (suc n) ≡ upto from n ++ (from + n) ∷ []
upto_push from zero = let same : from ≡ from + 0 = omega arith in ap (λ k. k ∷ []) same
upto_push from (suc n) = let same : suc from + n ≡ from + suc n = omega arith in ap (λ xs. from ∷ xs) (upto_push (suc from) n ∙ ap (λ k. upto (suc from) n ++ k ∷ []) same)

-- values written one after the other
module _ (s : Setting) (buffer : List ℕ) where
  abbrev f : ℕ → ℕ
  f = of (values_of s)

  pub listed_more : (i : ℕ) → i < length buffer → set (map f (upto 0 i) ++ drop i buffer) i (f i) ≡ map f (upto 0 (i + 1)) ++ drop (i + 1) buffer
  listed_more i h =
      let more : upto 0 (i + 1) ≡ upto 0 i ++ i ∷ [] = let next : i + 1 ≡ suc i = omega arith in let same : 0 + i ≡ i = omega arith in ap (upto 0) next ∙ upto_push 0 i ∙ ap (λ k. upto 0 i ++ k ∷ []) same in
      let long : length (map f (upto 0 i)) ≡ i = length-map (upto 0 i) f ∙ upto_long 0 i in
      ap (λ rest. set (map f (upto 0 i) ++ rest) i (f i)) (drop_more buffer i 0 h) ∙ set_at (map f (upto 0 i)) (get_or buffer i 0) (drop (i + 1) buffer) (f i) i long
      ∙ sym (append_assoc (map f (upto 0 i)) (f i ∷ []) (drop (i + 1) buffer))
      ∙ ap (λ front. front ++ drop (i + 1) buffer) (sym (map_push f (upto 0 i) i) ∙ ap (map f) (sym more))

  pub listed_all : (i : ℕ) → i ≡ length buffer → map f (upto 0 i) ++ drop i buffer ≡ listed s buffer
  listed_all i e = ap (λ rest. map f (upto 0 i) ++ rest) (drop_all i buffer (omega arith)) ∙ append-nil (map f (upto 0 i)) ∙ ap (λ k. map f (upto 0 k)) e

pub buffer_long : (variables places : ℕ) → first_of (buffer_rows variables places) ≡ None → places ≡ variables
buffer_long variables places h = eqb-true places variables (not-false (eqb places variables) (no_row _ _ h))

along_of : (order : List ℕ) (f : ℕ → ℕ) (v : ℕ) → has order v ≡ true → along order (map f order) v ≡ f v
along_of [] f v h = grind arith
along_of (u ∷ order) f v h = let ih = along_of order f v in grind (arith, nat_tests, ih)

same_upto : (f g : ℕ → ℕ) (from n : ℕ) → ((v : ℕ) → v < from + n → f v ≡ g v) → map f (upto from n) ≡ map g (upto from n)
same_upto f g from zero h = refl
same_upto f g from (suc n) h = ap₂ ◌∷◌ (h from (omega arith)) (same_upto f g (suc from) n (λ v l. h v (omega arith)))

module _ {C : Type 0} (p : Problem C) (formed : Formed p) (buffer : List ℕ) (long : length buffer ≡ length p.sizes) where
  -- an incumbent's values by variable number are those that it has along the order
  listing_is : (found : Option Setting) → listing found buffer ≡ written p (option_map (λ s. map (of (values_of s)) p.order) found) buffer
  listing_is None = refl
  listing_is (Some s) =
      ap (λ n. map (of (values_of s)) (upto 0 n)) long
      ∙ same_upto (of (values_of s)) (along p.order (map (of (values_of s)) p.order)) 0 (length p.sizes)
      (λ v l. sym (along_of p.order (of (values_of s)) v (covers p (shaped p formed) v (omega arith))))

  pub listing_written : (found : Option Setting) (incumbent : Option (List ℕ)) → option_map (λ s. map (of (values_of s)) p.order) found ≡ incumbent → listing found buffer ≡ written p incumbent buffer
  listing_written found incumbent e = listing_is found ∙ ap (λ (i : Option (List ℕ)). written p i buffer) e

mapped_some : (f : Setting → List ℕ) (found : Option Setting) → is_some (option_map f found) ≡ is_some found
mapped_some f None = refl
mapped_some f (Some s) = refl

pub found_some : (f : Setting → List ℕ) (found : Option Setting) (incumbent : Option (List ℕ)) → option_map f found ≡ incumbent → is_some incumbent ≡ is_some found
found_some f found incumbent e = ap is_some (sym e) ∙ mapped_some f found

module _ {C S : Type 0} (R : Rules C S) (K : Structure C) (j : Job C S) (area : List C) (buffer buffer' : List ℕ) (verdict : Verdict) (bar bottom : C) (found : Option Setting) (at : ℕ) (x : List ℕ)
    (formed : Formed (problem (standing j).outline area)) (long : length buffer ≡ length (standing j).outline.sizes)
    (incumbent : option_map (λ s. map (of (values_of s)) (standing j).outline.order) found ≡ (standing j).spot.incumbent)
    (listed-is : buffer' ≡ listing found buffer)
    (verdict_is : (i : Option (List ℕ)) → is_some i ≡ is_some found → verdict ≡ verdict_of (standing j).stage i)
    (bar_is : bar ≡ get_or area 1 K.neutral) (begins : at ≡ (standing j).outline.used) (empty : x ≡ [])
    (told : Told R (standing j).outline j.source area at x bottom) where
  pub reports_is : Reports R K j area buffer buffer' (record { verdict = verdict; cost = bar; bottom = bottom; visits = (standing j).visits })
  reports_is =
      let o = (standing j).outline in
      let told₁ = subst (λ (k : ℕ). Told R o j.source area k x bottom) begins told in
      let told₂ = subst (λ (y : List ℕ). Told R o j.source area o.used y bottom) empty told₁ in
      record {
        verdict_is = verdict_is (standing j).spot.incumbent (found_some _ found (standing j).spot.incumbent incumbent);
        buffer_is = listed-is ∙ listing_written (problem o area) formed buffer long found (standing j).spot.incumbent incumbent;
        cost_is = bar_is;
        visits_are = refl;
        bottom_is = λ filled. told₂ filled formed (none_fits (problem o area));
      }
