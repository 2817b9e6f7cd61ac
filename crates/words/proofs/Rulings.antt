-- Numbers that were read keep their rules.
use Rattle.std.proofs.Common.{◌≡◌, ℕ, Bool, true, false, List, Some, None, Ok, Err, Option, sym, refl, ap, ◌∙◌, arith}
use Rattle.variables.specs.declared.refusal.Refusal.{Refusal}
use Rattle.words.specs.declared.fault.Flaw.{Flaw}
use Rattle.words.specs.declared.number.Number.{Number}
use Rattle.words.specs.Words.{Word}
use Rattle.words.specs.Readings.{Reading, and_then, numeral}
use Rattle.words.specs.Ruled.{kept_or, ruled, number_by}

ruled_none : (flaw : Option Flaw) (n : Number) (ws : List Word) (v : ℕ) (left : List Word) → ruled flaw n ws ≡ Ok (v, left) → (flaw ≡ None) × (n.value ≡ v)
ruled_none None n ws v left h =
    let e : ◌≡◌ {A = ℕ × List Word} (n.value, ws) (v, left) = cc in
    (refl, ap (λ p. p.0) e)
ruled_none (Some flaw) n ws v left h = grind arith

by_rule : (rule : ℕ → Option Flaw) (m : Reading Number) (v : ℕ) (left : List Word) → and_then m (λ n ws. ruled (rule n.value) n ws) ≡ Ok (v, left) → rule v ≡ None
by_rule rule (Ok p) v left h = let both = ruled_none (rule p.0.value) p.0 p.1 v left h in ap rule (sym both.1) ∙ both.0
by_rule rule (Err e) v left h = grind arith

-- a number that was read by a rule keeps it
pub rule_kept : (stop : ℕ) (rule : ℕ → Option Flaw) (words : List Word) (v : ℕ) (left : List Word) → number_by stop rule words ≡ Ok (v, left) → rule v ≡ None
rule_kept stop rule words v left h = by_rule rule (numeral stop words) v left h

pub kept_true : (kept : Bool) (why : Refusal) → kept_or kept why ≡ None → kept ≡ true
kept_true true why h = refl
kept_true false why h = grind arith

-- a number that keeps its rule
pub rule_taken : (stop : ℕ) (rule : ℕ → Option Flaw) (words : List Word) (n : Number) (left : List Word)
    → Ok (n, left) ≡ numeral stop words → rule n.value ≡ None → number_by stop rule words ≡ Ok (n.value, left)
rule_taken stop rule words n left h k = ap (λ m. and_then m (λ n ws. ruled (rule n.value) n ws)) (sym h) ∙ ap (λ f. ruled f n left) k
