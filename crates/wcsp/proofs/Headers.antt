-- A heading, put together from its words.
use Rattle.std.proofs.Common.{◌≡◌, ℕ, ◌≤◌, leb, length, Ok, sym, refl}
use Rattle.std.proofs.lemmas.Bool.{and_parts, leb-true}
use Rattle.variables.specs.declared.refusal.Refusal.TheVariants.{Variables, Functions}
use Rattle.words.specs.Words.{Word}
use Rattle.words.specs.Readings.{next}
use Rattle.words.specs.Ruled.{any, number_by}
use Rattle.wcsp.specs.Rules.{variables_rule, count_rule}
use Rattle.wcsp.specs.Layouts.{heading}
use Rattle.words.specs.declared.plain.Reader.{Reader}
use Rattle.words.specs.Readers.{text_of, left_of}
use Rattle.wcsp.specs.Headings.{Heads}
use Rattle.words.proofs.Rulings.{rule_kept, kept_true}

module _ (s s₁ s₂ s₃ s₄ s₅ : Reader) (w : Word) (v l f u : ℕ)
    (k₁ : text_of s₁ ≡ text_of s) (k₂ : text_of s₂ ≡ text_of s₁) (k₃ : text_of s₃ ≡ text_of s₂) (k₄ : text_of s₄ ≡ text_of s₃)
    (a : Ok (w, left_of s₁) ≡ next (length (text_of s)) (left_of s))
    (b : Ok (v, left_of s₂) ≡ number_by (length (text_of s₁)) variables_rule (left_of s₁))
    (c : Ok (l, left_of s₃) ≡ number_by (length (text_of s₂)) any (left_of s₂))
    (d : Ok (f, left_of s₄) ≡ number_by (length (text_of s₃)) count_rule (left_of s₃))
    (e : Ok (u, left_of s₅) ≡ number_by (length (text_of s₄)) any (left_of s₄)) where
  pub heading_read : heading (length (text_of s)) (left_of s) ≡ Ok (record { name = w.bytes; variables = v; largest = l; functions = f; upper = u }, left_of s₅)
  heading_read = cc

  pub variables_few : v ≤ 32
  variables_few =
      leb-true v 32 (and_parts (leb 1 v) (leb v 32) (kept_true _ Variables (rule_kept (length (text_of s₁)) variables_rule (left_of s₁) v (left_of s₂) (sym b)))).1

  pub functions_few : f ≤ 64
  functions_few = leb-true f 64 (kept_true _ Functions (rule_kept (length (text_of s₃)) count_rule (left_of s₃) f (left_of s₄) (sym d)))

  pub heads : Heads (record { variables = v; largest = l; functions = f; upper = u }) (record { name = w.bytes; variables = v; largest = l; functions = f; upper = u })
  heads = record {
    variables = refl;
    largest = refl;
    functions = refl;
    upper = refl;
    few_variables = variables_few;
    few_functions = functions_few;
  }
