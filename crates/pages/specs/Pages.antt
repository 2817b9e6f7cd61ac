-- What is printed of a job and a setting.
use Rattle.std.specs.Prelude.{◌≡◌, ℕ, ◌+◌, ◌<◌, ◌≤◌, List, [], ◌∷◌, ◌++◌, length, Ok, Err, vec_items, Result, Vec, ◌≢◌, slice_index}
use Rattle.std.specs.declared.alloc.Global.{Global}
use Rattle.costs.specs.Kinds.{sum}
use Rattle.variables.specs.declared.plain.Misfit.{Misfit}
use Rattle.variables.specs.declared.plain.Misfit.TheVariants.{Length, Value as OfDomain}
use Rattle.variables.specs.declared.plain.Setting.{Setting}
use Rattle.variables.specs.Records.{values_of}
use Rattle.variables.specs.Assignments.{of, Full}
use Rattle.problems.specs.Problems.{Function, cost_at, cost}
use Rattle.words.specs.declared.fault.Fault.{Fault}
use Rattle.wcsp.specs.Layouts.{Document}
use Rattle.wcsp.specs.Described.{outlined, described}
use Rattle.pages.specs.declared.pricing.Failure.{Failure}
use Rattle.pages.specs.declared.pricing.Failure.TheVariants.{Memory, Refused, Values, Value}
use Rattle.pages.specs.Lines.{job_line, function_line, verdict_line}

-- a line for each function, from number k on: its scope, and what it costs at the setting
abbrev pub function_lines : List ℕ → List ℕ → ℕ → List (Function ℕ) → List ℕ
function_lines sizes s k [] = []
function_lines sizes s k (f ∷ fs) = function_line k f.scope (cost_at sum sizes (of s) f) ++ function_lines sizes s (k + 1) fs

-- the job, its functions' costs, and the setting's cost held against the upper bound
abbrev pub cost_page : Document → ℕ → List ℕ → List ℕ
cost_page d cells s =
    job_line d.name (length d.sizes) (length d.entries) (outlined d).used cells
    ++ (function_lines d.sizes s 0 (described d).functions ++ verdict_line (cost sum (described d) s) d.upper)

-- the first variable without a value of its domain
abbrev pub Misplaced : List ℕ → List ℕ → ℕ → Type 0
Misplaced sizes s v = (length s ≡ length sizes) × (v < length sizes) × (slice_index sizes v ≤ slice_index s v) × ((u : ℕ) → u < v → slice_index s u < slice_index sizes u)

-- what is wrong with values for so many variables
abbrev pub failure : Misfit → ℕ → Failure
failure Length wanted = Values wanted
failure (OfDomain v) wanted = Value v

-- the setting that the values give, or why there is none
abbrev pub Given : List ℕ → List ℕ → Result Setting Failure → Type 0
Given sizes s (Ok setting) = Full sizes s × ((v : ℕ) → of (values_of setting) v ≡ of s v)
Given sizes s (Err Memory) = ⊥
Given sizes s (Err (Refused f)) = ⊥
Given sizes s (Err (Values wanted)) = (wanted ≡ length sizes) × (length s ≢ length sizes)
Given sizes s (Err (Value v)) = Misplaced sizes s v

-- the page of the job that the text describes, in an area of so many cells, or why there is none
abbrev pub Priced : Result Document Fault → ℕ → List ℕ → Result (Vec ℕ Global) Failure → Type 0
Priced whole cells s (Ok page) = (d : Document) × (whole ≡ Ok d) × Full d.sizes s × (vec_items page ≡ cost_page d cells s)
Priced whole cells s (Err Memory) = Unit {0}
Priced whole cells s (Err (Refused f)) = whole ≡ Err f
Priced whole cells s (Err (Values wanted)) = (d : Document) × (whole ≡ Ok d) × (wanted ≡ length d.sizes) × (length s ≢ length d.sizes)
Priced whole cells s (Err (Value v)) = (d : Document) × (whole ≡ Ok d) × Misplaced d.sizes s v
