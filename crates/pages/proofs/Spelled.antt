-- Items that are printed with a blank between two.
use Rattle.std.proofs.Common.{◌≡◌, ℕ, ◌+◌, List, [], ◌∷◌, ◌++◌, Some, None, Ok, Option, codes, decimal, cond, nat_lt, refl, ap, sym, ◌∙◌, append_assoc, arith}
use Rattle.std.proofs.Output.{has_written_append}
use Rattle.std.specs.Fmt.{◌++?◌, HasWritten, DisplaysOnOk}
use Rattle.std.specs.declared.fmt.Formatter.{Formatter}
use Rattle.pages.specs.Lines.{spaced, spaced_text}

module _ {W : Type 0} (took : W → List ℕ → W → Type 0) (f g h : Formatter W) (whole done : List ℕ) where
  joined : (gap : List ℕ) (text rest : Option (List ℕ)) → HasWritten took f done g → Some done ++? Some gap ++? text ++? rest ≡ Some whole → DisplaysOnOk took g (Ok tt) (Some gap ++? text) h
      → (done' : List ℕ) × HasWritten took f done' h × (Some done' ++? rest ≡ Some whole)
  joined gap None rest before e put = cc
  joined gap (Some t) None before e put = cc
  joined gap (Some t) (Some r) before e put =
      (done ++ (gap ++ t), has_written_append took f done g (gap ++ t) h before (put before.plain refl), simp append_assoc e)

  -- one item more is written, with what stands before it
  pub one_more : {T : Type 0} (text : T → Option (List ℕ)) (k : ℕ) (x : T) (ys xs : List T) (gap : List ℕ)
      → HasWritten took f done g → Some done ++? spaced_text text k ys ≡ Some whole → ys ≡ x ∷ xs → gap ≡ cond (nat_lt 0 k) (codes " ") [] → DisplaysOnOk took g (Ok tt) (Some gap ++? text x) h
      → (done' : List ℕ) × HasWritten took f done' h × (Some done' ++? spaced_text text (k + 1) xs ≡ Some whole)
  one_more text k x ys xs gap before e here is put =
      joined gap (text x) (spaced_text text (k + 1) xs) before
      (ap (λ (g' : List ℕ). Some done ++? Some g' ++? text x ++? spaced_text text (k + 1) xs) is ∙ sym (ap (λ zs. Some done ++? spaced_text text k zs) here) ∙ e) put

-- numbers print the text that says them
pub numbers_spelled : (k : ℕ) (ns : List ℕ) → spaced_text (λ n. Some (decimal n)) k ns ≡ Some (spaced k ns)
numbers_spelled k [] = refl
numbers_spelled k (n ∷ ns) = let ih = numbers_spelled (k + 1) ns in grind arith
