-- A whole text, loaded into an area.
use Rattle.std.specs.Prelude.{◌≡◌, ℕ, ◌≤◌, cond, ◌&&◌, List, length, take, drop, Ok, Err, Result, nat_le}
use Rattle.variables.specs.declared.refusal.Refusal.TheVariants.{Area}
use Rattle.problems.specs.Outlines.{outline, problem}
use Rattle.words.specs.declared.fault.Fault.{Fault}
use Rattle.words.specs.declared.fault.Flaw.TheVariants.{Job, TextLength}
use Rattle.wcsp.specs.declared.load.Loaded.{Loaded}
use Rattle.wcsp.specs.declared.tables.Pass.{Pass}
use Rattle.words.specs.Words.{words}
use Rattle.words.specs.Readings.{fault}
use Rattle.wcsp.specs.Layouts.{Document, document}
use Rattle.wcsp.specs.Passes.{by_pass}
use Rattle.wcsp.specs.Tables.{laid}
use Rattle.wcsp.specs.Costs.{Costs}
use Rattle.wcsp.specs.Described.{outlined, tables, described}

-- a text of at most 65,535 bytes, for an area of 2 to 16,384 cells, that has the layout
abbrev pub loading : List ℕ → ℕ → Result Document Fault
loading text area =
    cond (nat_le (length text) 65535)
    (cond (nat_le 2 area && nat_le area 16384) (document (length text) area (words text)) (fault (Job Area) 0))
    (fault TextLength 0)

-- what is loaded is what the text says; of the area only the tables' cells change
pub record Loads (l : Loaded) (d : Document) (area area' : List ℕ) : Type 0 where
  pub upper : l.upper ≡ d.upper
  pub shape : outline l.shape ≡ outlined d
  pub tables : problem (outline l.shape) area' ≡ described d
  -- and in that problem every tuple costs what the text lists for it, or else the usual cost
  pub costs : Costs d
  pub long : length area' ≡ length area
  pub inside : (outline l.shape).used ≤ length area
  pub before : take 2 area' ≡ take 2 area
  pub behind : drop (outline l.shape).used area' ≡ drop (outline l.shape).used area

-- a text is loaded, or it has a fault and the area is as it was
abbrev pub Outcome : Result Document Fault → Result Loaded Fault → List ℕ → List ℕ → Type 0
Outcome whole (Ok l) area area' = (d : Document) × (whole ≡ Ok d) × Loads l d area area'
Outcome whole (Err e) area area' = (whole ≡ Err e) × (area' ≡ area)

-- what one pass leaves: the tables one behind the other, once written
abbrev pub Passed : Pass → Loaded → Document → List ℕ → List ℕ → Type 0
Passed pass l d area area' =
    (l.upper ≡ d.upper) × (outline l.shape ≡ outlined d) × (area' ≡ by_pass pass area (laid area 2 (tables d.sizes d.entries)))
