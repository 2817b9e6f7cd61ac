-- Two lawful sources make a lawful one.
use Rattle.std.specs.Prelude.{◌≡◌, ℕ, ◌+◌, ◌<◌, ◌≤◌, min, true, ◌&&◌, List, get_or, take, drop, slice_index_or}
use Rattle.std.proofs.Common.{sym, ap, ap₂, subst, ◌∙◌, arith}
use Rattle.std.proofs.lemmas.List.{take-take, drop-drop, get_or-take}
use Rattle.std.proofs.lemmas.Bool.{and_parts, cond_both}
use Rattle.costs.specs.Structures.{Structure}
use Rattle.problems.specs.Problems.{Function, cost}
use Rattle.problems.specs.Records.{laid_from}
use Rattle.problems.specs.Outlines.{Outline, problem}
use Rattle.problems.proofs.Tables.{same_below}
use Rattle.floors.specs.Rules.{Rules, Sound, Fills, frame}
use Rattle.foreign.specs.declared.plain.Greater.{Greater}
use Rattle.foreign.specs.Sources.{greater_of, greater_rules}

module _ {C A B : Type 0} (K : Structure C) (R : Rules C A) (S : Rules C B) (first : Sound K R) (second : Sound K S) where
  pub greater_sound : Sound K (greater_rules K R S)
  greater_sound = record {
    admissible = λ s o area formed suits x t le full begins.
        let p = problem o area in
        let both = and_parts (R.suits s.first (frame o)) (S.suits s.second (frame o)) suits in
        cond_both (K.at_most (R.meaning s.first p x) (S.meaning s.second p x)) (S.meaning s.second p x) (R.meaning s.first p x) (λ c. K.at_most c (cost K p t) ≡ true)
        (λ _. second.admissible s.second o area formed both.1 x t le full begins) (λ _. first.admissible s.first o area formed both.0 x t le full begins);
    stays = λ s o area area' at long same cells filled.
        let small = filled.0 in (
          small,
          first.stays s.first o area area' at long same (λ k d l h. cells k d l (omega arith)) filled.1,
          second.stays s.second o area area' (at + R.room s.first (frame o)) long same (λ k d l h. cells k d (omega arith) (omega arith)) filled.2,
        );
  }

  -- the second writes behind the first, whose cells and the tables then stand
  module _ (o : Outline) (laid : laid_from o.sizes 2 o.functions o.used ≡ true) (s s' : Greater A B) (area area₁ area₂ : List C) (at behind : ℕ)
      (next : behind ≡ at + R.room s.first (frame o)) (after : o.used ≤ at) (small : at + (R.room s.first (frame o) + S.room s.second (frame o)) ≤ 18446744073709551615)
      (one : Fills R o s.first s'.first area area₁ at) (two : Fills S o s.second s'.second area₁ area₂ behind) where
    same_problem : problem o area₂ ≡ problem o area₁
    same_problem =
        ap (λ (fs : List (Function C)). record { sizes = o.sizes; functions = fs; order = o.order }) (same_below o.sizes area₁ area₂ behind two.before 2 o.used o.functions laid (omega arith))

    same_cells : (k : ℕ) (d : C) → at ≤ k → k < at + R.room s'.first (frame o) → slice_index_or area₂ k d ≡ slice_index_or area₁ k d
    same_cells k d l h =
        let low : k < behind = omega (arith, one.same_room (frame o)) in
        sym (get_or-take behind area₂ k d low) ∙ ap (λ (xs : List C). get_or xs k d) two.before ∙ get_or-take behind area₁ k d low

    pub greater_fills : Fills (greater_rules K R S) o s s' area area₂ at
    greater_fills =
        let a = R.room s.first (frame o) in
        let b = S.room s.second (frame o) in
        let early : at ≤ behind = omega arith in
        let end : at + min (a + b) 18446744073709551615 ≡ behind + b = omega arith in
        let place : behind ≡ at + R.room s'.first (frame o) = omega (arith, one.same_room (frame o)) in
        record {
          long = two.long ∙ one.long;
          before = sym (take-take at behind area₂ early) ∙ ap (take at) two.before ∙ take-take at behind area₁ early ∙ one.before;
          behind =
              ap (λ n. drop n area₂) end ∙ two.behind ∙ sym (drop-drop b behind area₁) ∙ ap (drop b) (ap (λ n. drop n area₁) next ∙ one.behind ∙ sym (ap (λ n. drop n area) next))
              ∙ drop-drop b behind area ∙ sym (ap (λ n. drop n area) end);
          filled = (
            omega (arith, one.same_room (frame o), two.same_room (frame o)),
            first.stays s'.first o area₁ area₂ at two.long same_problem same_cells one.filled,
            subst (S.filled s'.second o area₂) place two.filled,
          );
          same_suits = λ f. ap₂ ◌&&◌ (one.same_suits f) (two.same_suits f);
          same_room = λ f. ap₂ (λ m n. min (m + n) 18446744073709551615) (one.same_room f) (two.same_room f);
          same_meaning = λ p x. ap₂ (greater_of K) (one.same_meaning p x) (two.same_meaning p x);
        }
