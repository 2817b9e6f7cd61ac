-- Numbers that have to keep to a rule.
use Rattle.std.specs.Prelude.{ℕ, Bool, cond, List, Some, None, Ok, Option}
use Rattle.variables.specs.declared.refusal.Refusal.{Refusal}
use Rattle.words.specs.declared.fault.Flaw.{Flaw}
use Rattle.words.specs.declared.fault.Flaw.TheVariants.{Rule}
use Rattle.words.specs.declared.number.Number.{Number}
use Rattle.words.specs.Words.{Word}
use Rattle.words.specs.Readings.{Reading, and_then, fault, numeral}

-- a rule of the job that is kept, or the refusal that it gives
abbrev pub kept_or : Bool → Refusal → Option Flaw
kept_or kept why = cond kept None (Some (Rule why))

-- every number will do
abbrev pub any : ℕ → Option Flaw
any n = None

-- a number that breaks its rule is a fault at its word
abbrev pub ruled : Option Flaw → Number → List Word → Reading ℕ
ruled None n ws = Ok (n.value, ws)
ruled (Some flaw) n ws = fault flaw n.at

-- the first word, as a number that keeps its rule
abbrev pub number_by : ℕ → (ℕ → Option Flaw) → List Word → Reading ℕ
number_by stop rule words = and_then (numeral stop words) (λ n ws. ruled (rule n.value) n ws)
