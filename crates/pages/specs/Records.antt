-- The functions' lines, as they are read off a job's records.
use Rattle.std.specs.Prelude.{◌≡◌, ℕ, ◌+◌, List, [], ◌∷◌, ◌++◌, length, Some, None, Option}
use Rattle.costs.specs.Kinds.{sum}
use Rattle.problems.specs.Outlines.{Outline, problem}
use Rattle.variables.specs.Assignments.{Assignment, of, Full}
use Rattle.problems.specs.Problems.{cost}
use Rattle.problems.specs.Records.{Placed, held}
use Rattle.pages.specs.Lines.{job_line, function_line, verdict_line}

-- the line of function k, if there is one
abbrev pub record_line : List ℕ → List ℕ → Assignment → ℕ → Option Placed → List ℕ
record_line sizes area a k None = []
record_line sizes area a k (Some f) = function_line k f.scope (held sum sizes area a f)

-- a line for each function, from number k on
abbrev pub record_lines : List ℕ → List ℕ → Assignment → ℕ → List Placed → List ℕ
record_lines sizes area a k [] = []
record_lines sizes area a k (f ∷ fs) = record_line sizes area a k (Some f) ++ record_lines sizes area a (k + 1) fs

-- the whole page, with the setting's cost beside the upper bound
abbrev pub record_page : List ℕ → Outline → List ℕ → Assignment → ℕ → ℕ → List ℕ
record_page name o area a cost upper =
    job_line name (length o.sizes) (length o.functions) o.used (length area) ++ (record_lines o.sizes area a 0 o.functions ++ verdict_line cost upper)

-- what the values cost where they are a full setting
abbrev pub PricedAt : Outline → List ℕ → List ℕ → ℕ → Type 0
PricedAt o area values c = (s : List ℕ) → Full o.sizes s → ((v : ℕ) → of values v ≡ of s v) → c ≡ cost sum (problem o area) s
