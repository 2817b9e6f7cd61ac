-- A page that is written part by part.
use Rattle.std.proofs.Common.{◌≡◌, List, ◌++◌, append_assoc, Ok, Err, Result, OnOk}

pub three_parts : {A E : Type 0} (r : Result (Unit {0}) E) (p p₁ p₂ p₃ a b c d : List A) → p₁ ≡ p ++ a → p₂ ≡ p₁ ++ b → OnOk r (p₃ ≡ p₂ ++ c) → c ≡ d
    → OnOk r (p₃ ≡ p ++ (a ++ (b ++ d)))
three_parts (Err e) p p₁ p₂ p₃ a b c d f g h i = tt
three_parts (Ok u) p p₁ p₂ p₃ a b c d f g h i = rw (h, g, f, i) (simp append_assoc)
