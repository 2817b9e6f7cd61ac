-- What load answers and does.
use Rattle.std.specs.Prelude.{◌≡◌, ℕ, cond, List, length, take, drop, Ok, Err, Result}
use Rattle.variables.specs.declared.refusal.Refusal.TheVariants.{Stage as WrongStage}
use Rattle.problems.specs.Outlines.{problem}
use Rattle.words.specs.declared.fault.Fault.{Fault}
use Rattle.words.specs.declared.fault.Flaw.TheVariants.{Job as OfJob}
use Rattle.words.specs.Readings.{fault}
use Rattle.wcsp.specs.Layouts.{Document}
use Rattle.wcsp.specs.Described.{outlined, described}
use Rattle.wcsp.specs.Costs.{Costs}
use Rattle.wcsp.specs.Loads.{loading}
use Rattle.jobs.specs.declared.stage.Call.TheVariants.{Load}
use Rattle.jobs.specs.declared.job.Job.{Job}
use Rattle.jobs.specs.Stages.{takes}
use Rattle.jobs.specs.Standings.{Standing, draft, standing, Stands}

-- the stage comes first, then the text's length, the area's, and the text word by word
abbrev pub load_outcome : Standing → List ℕ → ℕ → Result Document Fault
load_outcome j text cells = cond (takes j.stage Load) (loading text cells) (fault (OfJob WrongStage) 0)

module _ {S : Type 0} where
  -- the job is the one that the text describes, each tuple with its listed cost or the default; of the area only the tables' cells changed
  pub record Loaded (b a : Job ℕ S) (area area' : List ℕ) (d : Document) (upper : ℕ) : Type 0 where
    pub upper_is : upper ≡ d.upper
    pub stands : Stands a (draft (outlined d) (length area)) b.source
    pub problem_is : problem (standing a).outline area' ≡ described d
    pub costs_are : Costs d
    pub long : length area' ≡ length area
    pub before : take 2 area' ≡ take 2 area
    pub behind : drop (standing a).outline.used area' ≡ drop (standing a).outline.used area

  -- the text is loaded, or it is refused and nothing changed
  abbrev pub LoadsInto : Job ℕ S → Job ℕ S → List ℕ → List ℕ → Result Document Fault → Result ℕ Fault → Type 0
  LoadsInto b a area area' whole (Ok upper) = (d : Document) × (whole ≡ Ok d) × Loaded b a area area' d upper
  LoadsInto b a area area' whole (Err f) = (whole ≡ Err f) × (a ≡ b) × (area' ≡ area)
