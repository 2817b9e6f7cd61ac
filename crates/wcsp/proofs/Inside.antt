-- The tables of a text that was read lie in the area.
use Rattle.std.proofs.Common.{◌≡◌, ℕ, zero, suc, ◌+◌, ◌≤◌, leb, List, [], ◌∷◌, ◌++◌, length, Ok, sym, ap, ◌∙◌, arith}
use Rattle.std.proofs.lemmas.List.{append_assoc, append-nil, length-append}
use Rattle.std.proofs.lemmas.Bool.{leb-true}
use Rattle.variables.specs.declared.refusal.Refusal.TheVariants.{Room}
use Rattle.problems.specs.Outlines.{opened}
use Rattle.variables.specs.Assignments.{cells}
use Rattle.words.specs.Words.{Word}
use Rattle.wcsp.specs.Rules.{room_rule}
use Rattle.wcsp.specs.Layouts.{Entry, Document, entry, entries_from, document}
use Rattle.wcsp.specs.Tables.{table_of}
use Rattle.wcsp.specs.Described.{outlined, tables}
use Rattle.wcsp.proofs.Entries.{length_table}
use Rattle.wcsp.proofs.Turns.{entered_used}
use Rattle.words.proofs.Rulings.{rule_kept, kept_true}
use Rattle.wcsp.proofs.Sound.{then_inv, ok_value, entry_parts, document_parts}

module _ (stop area : ℕ) (sizes : List ℕ) where
  entry_room : (used : ℕ) (words : List Word) (e : Entry) (left : List Word) → entry stop area sizes used words ≡ Ok (e, left) → used + cells sizes e.scope ≤ area
  entry_room used words e left h =
      let p = entry_parts stop area sizes used words e left h in
      leb-true (used + cells sizes e.scope) area (kept_true (leb (used + cells sizes e.scope) area) Room (rule_kept stop (room_rule area used (cells sizes e.scope)) p.ws₁ e.usual p.ws₂ p.usual))

  entries_inside : (k used : ℕ) (done : List Entry) (words : List Word) (es : List Entry) (left : List Word) → used ≤ area → entries_from stop area sizes k used done words ≡ Ok (es, left)
      → (rest : List Entry) × (es ≡ done ++ rest) × (used + length (tables sizes rest) ≤ area)
  entries_inside zero used done words es left room h = ([], sym (ok_value done es words left h) ∙ sym (append-nil done), omega arith)
  entries_inside (suc k) used done words es left room h =
      let a = then_inv (entry stop area sizes used words) (λ e ws. entries_from stop area sizes k (used + cells sizes e.scope) (done ++ e ∷ []) ws) es left h in
      let e = a.0 in
      let ih = entries_inside k (used + cells sizes e.scope) (done ++ e ∷ []) a.1.0 es left (entry_room used words e a.1.0 a.1.1) a.1.2 in
      (e ∷ ih.0, ih.1 ∙ append_assoc done (e ∷ []) ih.0, omega (arith, ih.2, length-append (table_of sizes e) (tables sizes ih.0), length_table sizes e))

pub document_inside : (stop area : ℕ) (words : List Word) (d : Document) → 2 ≤ area → document stop area words ≡ Ok d → (outlined d).used ≤ area
document_inside stop area words d room h =
    let p = document_parts stop area words d h in
    let there = entries_inside stop area d.sizes p.h.functions 2 [] p.ws₂ d.entries p.ws₃ room p.entries in
    omega (arith, there.2, ap (λ es. length (tables d.sizes es)) there.1, entered_used (opened d.sizes) d.entries)
