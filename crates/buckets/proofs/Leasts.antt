-- The least of several costs, as a loop finds it.
use Rattle.std.proofs.Common.{◌≡◌, ℕ, suc, ◌+◌, ◌-◌, ◌<◌, List, [], ◌∷◌, map, sym, refl, ap, ◌∙◌, ap₂, arith}
use Rattle.costs.specs.Structures.{Structure, Lawful}
use Rattle.floors.specs.Leasts.{lesser, least_of}
use Rattle.floors.specs.Settings.{upto}
use Rattle.floors.proofs.Numbers.{lesser_assoc}

module _ {C : Type 0} {K : Structure C} (L : Lawful K) where
  least_on : (a b : C) (cs : List C) → least_of K (lesser K a b ∷ cs) ≡ least_of K (a ∷ (b ∷ cs))
  least_on a b [] = refl
  least_on a b (c ∷ cs) = lesser_assoc L a b (least_of K (c ∷ cs))

  module _ (F : ℕ → C) (size : ℕ) where
    pub least_first : (acc : C) → 0 < size → acc ≡ F 0 → least_of K (acc ∷ map F (upto 1 (size - 1))) ≡ least_of K (map F (upto 0 size))
    least_first acc some e =
        let n : size ≡ suc (size - 1) = omega arith in
        ap (λ (c : C). least_of K (c ∷ map F (upto 1 (size - 1)))) e ∙ sym (ap (λ m. least_of K (map F (upto 0 m))) n)

    pub least_more : (acc next : C) (v : ℕ) (whole : C) → v < size → least_of K (acc ∷ map F (upto v (size - v))) ≡ whole → next ≡ lesser K acc (F v)
        → least_of K (next ∷ map F (upto (v + 1) (size - (v + 1)))) ≡ whole
    least_more acc next v whole l before e =
        let n : size - v ≡ suc (size - (v + 1)) = omega arith in
        let one : v + 1 ≡ suc v = omega arith in
        ap₂ (λ (c : C) (from : ℕ). least_of K (c ∷ map F (upto from (size - (v + 1))))) e one
        ∙ least_on acc (F v) (map F (upto (suc v) (size - (v + 1))))
        ∙ sym (ap (λ m. least_of K (acc ∷ map F (upto v m))) n) ∙ before
