use Rattle.std.proofs.Common.{◌≡◌, ℕ, ◌≤◌, ◌&&◌, leb, List, length, take, drop, Ok, Err, Result, sym, refl, ap, ◌∙◌, arith}
use Rattle.std.proofs.lemmas.Bool.{cond-true, le-leb, and_from}
use Rattle.problems.specs.Outlines.{Outline, outline, problem}
use Rattle.words.specs.declared.fault.Fault.{Fault}
use Rattle.words.specs.Words.{words}
use Rattle.words.specs.Readings.{Says}
use Rattle.wcsp.specs.declared.load.Loaded.{Loaded}
use Rattle.wcsp.specs.declared.tables.Pass.TheVariants.{Writing}
use Rattle.wcsp.specs.Layouts.{Document, document}
use Rattle.wcsp.specs.Loads.{loading, Outcome, Passed}
use Rattle.wcsp.proofs.Documents.{problem_there, before_same, behind_same}
use Rattle.wcsp.proofs.Prices.{document_costs}
use Rattle.wcsp.proofs.Inside.{document_inside}
use Rattle.wcsp.proofs.load.load.Goals as goal

module _ (text area area₁ area₂ : List ℕ) (short : length text ≤ 65535) (low : 2 ≤ length area) (high : length area ≤ 16384) (unchanged : area₁ ≡ area) (kept : length area₂ ≡ length area₁)
    (before : Document) (checked : document (length text) (length area₁) (words text) ≡ Ok before) where
  -- the writing pass reads what the checking pass read
  written : (r : Result Loaded Fault) → Says (document (length text) (length area₁) (words text)) r (λ l d. Passed Writing l d area₁ area₂) → Outcome (loading text (length area)) r area area₂
  written (Ok l) got =
      let d = got.0 in
      let room : 2 ≤ length area₁ = omega (arith, ap length unchanged) in
      let shape = got.2.1 in
      let used = ap (λ (o : Outline). o.used) shape in
      let right = and_from (leb 2 (length area)) (leb (length area) 16384) (le-leb 2 (length area) low) (le-leb (length area) 16384 high) in (
        d,
        cond-true (leb (length text) 65535) _ _ (le-leb (length text) 65535 short) ∙ cond-true (leb 2 (length area) && leb (length area) 16384) _ _ right ∙ ap (λ a. document (length text) (length a) (words text)) (sym unchanged) ∙ got.1,
        record {
          upper = got.2.0;
          shape = shape;
          tables = ap (λ o. problem o area₂) shape ∙ problem_there d area₁ area₂ room got.2.2;
          costs = document_costs (length text) (length area₁) (words text) d got.1;
          long = kept ∙ ap length unchanged;
          inside = omega (arith, document_inside (length text) (length area₁) (words text) d room got.1, used, ap length unchanged);
          before = before_same d area₁ area₂ room got.2.2 ∙ ap (λ a. take 2 a) unchanged;
          behind = ap (λ n. drop n area₂) used ∙ behind_same d area₁ area₂ room got.2.2 ∙ ap (λ n. drop n area₁) (sym used) ∙ ap (drop (outline l.shape).used) unchanged;
        },
      )
  written (Err e) h = absurd (let z : ◌≡◌ {A = ℕ} 0 1 = cc in omega arith)

pub returns : goal.returns
returns c =
    let text = c.args.text.now in
    let area = c.args.area.now in
    let unchanged : c.read.new.area ≡ area = c.read.ensures.checked refl in
    let first = c.in_ok-read.ensures.read in
    let checked = ap (λ a. document (length text) (length a) (words text)) unchanged ∙ first.1 in
    written text area c.read.new.area c.read-2.new.area (omega arith) (omega arith) (omega arith) unchanged (omega arith) first.0 checked c.read-2.result c.read-2.ensures.read
