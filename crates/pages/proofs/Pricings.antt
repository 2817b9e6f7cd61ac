-- From what the records say to what the text describes.
use Rattle.std.proofs.Common.{◌≡◌, ℕ, Bool, true, false, cond, ◌&&◌, leb, List, ◌++◌, length, Some, None, Ok, Err, Option, Result, unwrap_or, ap, ◌∙◌, ap₂, zero-add, arith, Bor}
use mathlib.Core.Path.{fun_ext}
use Rattle.std.specs.Option.{option_map}
use Rattle.costs.specs.Kinds.{sum}
use Rattle.problems.specs.Outlines.{Outline, opened, problem}
use Rattle.variables.specs.Assignments.{Assignment, of, Full}
use Rattle.problems.specs.Problems.{Function, Problem, cost}
use Rattle.problems.specs.Records.{all_proper}
use Rattle.words.specs.declared.fault.Fault.{Fault}
use Rattle.words.specs.Words.{words, name_of}
use Rattle.wcsp.specs.Layouts.{Document, document}
use Rattle.wcsp.specs.Described.{outlined, described}
use Rattle.wcsp.specs.Loads.{loading}
use Rattle.wcsp.proofs.Turns.{entered_sizes, entered_length}
use Rattle.wcsp.proofs.Names.{document_name}
use Rattle.jobs.specs.declared.job.Job.{Job}
use Rattle.jobs.specs.Standings.{Standing, standing, closed, Stands}
use Rattle.jobs.specs.Loading.{load_outcome}
use Rattle.pages.specs.Lines.{job_line, verdict_line}
use Rattle.pages.specs.Records.{record_lines, record_page, PricedAt}
use Rattle.pages.specs.Pages.{function_lines, cost_page}
use Rattle.pages.proofs.Listings.{lines_there}

-- a new job takes a text
pub outcome_new : {S : Type 0} (j : Job ℕ S) (source : S) (text : List ℕ) (n : ℕ) → Stands j closed source → load_outcome (standing j) text n ≡ loading text n
outcome_new j source text n new = ap (λ (st : Standing). load_outcome st text n) new.standing_is

-- a text that is loaded has the layout
loaded_layout : (a b : Bool) (m : Result Document Fault) (f g : Fault) (d : Document) → cond a (cond b m (Err f)) (Err g) ≡ Ok d → m ≡ Ok d
loaded_layout true true m f g d h = h
loaded_layout true false m f g d h = grind arith
loaded_layout false b m f g d h = grind arith

pub loading_name : (text : List ℕ) (cells : ℕ) (d : Document) → loading text cells ≡ Ok d → name_of (words text) ≡ Some d.name
loading_name text cells d h = document_name (length text) cells (words text) d (loaded_layout (leb (length text) 65535) (leb 2 cells && leb cells 16384) (document (length text) cells (words text)) _ _ d h)

module _ (d : Document) (o : Outline) (area s : List ℕ) (same : o ≡ outlined d) (there : problem o area ≡ described d) (full : Full o.sizes s) (apart : all_proper (length o.sizes) o.functions ≡ true) where
  sizes_are : o.sizes ≡ d.sizes
  sizes_are = ap (λ (x : Outline). x.sizes) same ∙ entered_sizes (opened d.sizes) d.entries

  pub full_there : Full d.sizes s
  full_there = rw sizes_are at full

  pub page_there : (title : List ℕ) (values : List ℕ) (c upper : ℕ) (page : List ℕ) → title ≡ d.name → ((v : ℕ) → of values v ≡ of s v) → PricedAt o area values c → upper ≡ d.upper
      → page ≡ record_page title o area (of values) c upper → page ≡ cost_page d (length area) s
  page_there title values c upper page named given priced bound is =
      let count : length o.functions ≡ length d.entries = ap (λ (x : Outline). length x.functions) same ∙ entered_length (opened d.sizes) d.entries ∙ zero-add (length d.entries) in
      let used = ap (λ (x : Outline). x.used) same in
      let cost_is : c ≡ cost sum (described d) s = priced s full given ∙ ap (λ (p : Problem ℕ). cost sum p s) there in
      let lines : record_lines o.sizes area (of values) 0 o.functions ≡ function_lines d.sizes s 0 (described d).functions =
      ap (λ (a : Assignment). record_lines o.sizes area a 0 o.functions) (fun_ext given)
      ∙ lines_there o.sizes area s full 0 o.functions apart
      ∙ ap₂ (λ (sizes : List ℕ) (fs : List (Function ℕ)). function_lines sizes s 0 fs) sizes_are (ap (λ (p : Problem ℕ). p.functions) there) in
      let sizes = ap length sizes_are in
      let head : job_line title (length o.sizes) (length o.functions) o.used (length area) ≡ job_line d.name (length d.sizes) (length d.entries) (outlined d).used (length area) = cc in
      let tail : verdict_line c upper ≡ verdict_line (cost sum (described d) s) d.upper = ap₂ verdict_line cost_is bound in
      is ∙ ap₂ (λ (x y : List ℕ). x ++ y) head (ap₂ (λ (x y : List ℕ). x ++ y) lines tail)

-- a title that is there
pub title_is : (o : Option (Bor (List ℕ))) (r : Bor (List ℕ)) (x : List ℕ) → option_map (λ (x : Bor (List ℕ)). x.now) o ≡ Some x → (unwrap_or o r).now ≡ x
title_is None r x h = grind arith
title_is (Some y) r x h = cc
