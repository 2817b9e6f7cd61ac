-- A text that is loaded has a variable.
use Rattle.std.proofs.Common.{◌≡◌, ℕ, zero, suc, ◌+◌, ◌≤◌, Bool, true, false, cond, ◌&&◌, leb, List, [], ◌∷◌, ◌++◌, length, Ok, Err, Result, refl, ap, arith}
use Rattle.std.proofs.lemmas.List.{length-append}
use Rattle.std.proofs.lemmas.Bool.{leb-true, and_parts}
use Rattle.variables.specs.declared.refusal.Refusal.TheVariants.{Variables, Area}
use Rattle.problems.specs.Outlines.{opened}
use Rattle.words.specs.declared.fault.Fault.{Fault}
use Rattle.words.specs.declared.fault.Flaw.TheVariants.{Job}
use Rattle.words.specs.Words.{Word, words}
use Rattle.words.specs.Readings.{and_then, next, fault}
use Rattle.words.specs.Ruled.{any, number_by}
use Rattle.wcsp.specs.Rules.{variables_rule, count_rule, size_rule}
use Rattle.wcsp.specs.Layouts.{Heading, Document, heading, sizes_from, entries_from, document}
use Rattle.wcsp.specs.Described.{outlined}
use Rattle.wcsp.specs.Loads.{loading}
use Rattle.wcsp.proofs.Turns.{entered_sizes}
use Rattle.words.proofs.Rulings.{rule_kept, kept_true}
use Rattle.wcsp.proofs.Sound.{then_inv, ok_value, all_inv}

heading_some : (stop : ℕ) (words : List Word) (h : Heading) (left : List Word) → heading stop words ≡ Ok (h, left) → 1 ≤ h.variables
heading_some stop words h left e =
    let a = then_inv (next stop words) (λ name ws₁.
    and_then (number_by stop variables_rule ws₁) (λ variables ws₂.
    and_then (number_by stop any ws₂) (λ largest ws₃.
    and_then (number_by stop count_rule ws₃) (λ functions ws₄.
    and_then (number_by stop any ws₄) (λ upper ws₅.
    Ok (record { name = name.bytes; variables = variables; largest = largest; functions = functions; upper = upper }, ws₅)))))) h left e in
    let b = then_inv (number_by stop variables_rule a.1.0) (λ variables ws₂.
    and_then (number_by stop any ws₂) (λ largest ws₃.
    and_then (number_by stop count_rule ws₃) (λ functions ws₄.
    and_then (number_by stop any ws₄) (λ upper ws₅.
    Ok (record { name = a.0.bytes; variables = variables; largest = largest; functions = functions; upper = upper }, ws₅))))) h left a.1.2 in
    let v : ℕ = b.0 in
    let c = then_inv (number_by stop any b.1.0) (λ largest ws₃.
    and_then (number_by stop count_rule ws₃) (λ functions ws₄.
    and_then (number_by stop any ws₄) (λ upper ws₅.
    Ok (record { name = a.0.bytes; variables = v; largest = largest; functions = functions; upper = upper }, ws₅)))) h left b.1.2 in
    let d = then_inv (number_by stop count_rule c.1.0) (λ functions ws₄.
    and_then (number_by stop any ws₄) (λ upper ws₅.
    Ok (record { name = a.0.bytes; variables = v; largest = c.0; functions = functions; upper = upper }, ws₅))) h left c.1.2 in
    let f = then_inv (number_by stop any d.1.0) (λ upper ws₅.
    Ok (record { name = a.0.bytes; variables = v; largest = c.0; functions = d.0; upper = upper }, ws₅)) h left d.1.2 in
    let is = ok_value (record { name = a.0.bytes; variables = v; largest = c.0; functions = d.0; upper = f.0 }) h f.1.0 left f.1.2 in
    let kept = kept_true (leb 1 v && leb v 32) Variables (rule_kept stop variables_rule a.1.0 v b.1.0 b.1.1) in
    let low : 1 ≤ v = leb-true 1 v (and_parts (leb 1 v) (leb v 32) kept).0 in
    omega (arith, low, ap (λ (h : Heading). h.variables) is)

sizes_long : (stop max k : ℕ) (done : List ℕ) (words : List Word) (sizes : List ℕ) (left : List Word) → sizes_from stop max k done words ≡ Ok (sizes, left) → length sizes ≡ length done + k
sizes_long stop max zero done words sizes left h = omega (arith, ap length (ok_value done sizes words left h))
sizes_long stop max (suc k) done words sizes left h =
    let a = then_inv (number_by stop (size_rule max) words) (λ size ws. sizes_from stop max k (done ++ size ∷ []) ws) sizes left h in
    omega (arith, sizes_long stop max k (done ++ a.0 ∷ []) a.1.0 sizes left a.1.2, length-append done (a.0 ∷ []))

document_some : (stop area : ℕ) (words : List Word) (d : Document) → document stop area words ≡ Ok d → 1 ≤ length d.sizes
document_some stop area words d h =
    let m = all_inv (and_then (heading stop words) (λ h ws₁.
    and_then (sizes_from stop h.largest h.variables [] ws₁) (λ sizes ws₂.
    and_then (entries_from stop area sizes h.functions 2 [] ws₂) (λ entries ws₃.
    Ok (record { name = h.name; upper = h.upper; sizes = sizes; entries = entries }, ws₃))))) d h in
    let a = then_inv (heading stop words) (λ h ws₁.
    and_then (sizes_from stop h.largest h.variables [] ws₁) (λ sizes ws₂.
    and_then (entries_from stop area sizes h.functions 2 [] ws₂) (λ entries ws₃.
    Ok (record { name = h.name; upper = h.upper; sizes = sizes; entries = entries }, ws₃)))) d [] m in
    let b = then_inv (sizes_from stop a.0.largest a.0.variables [] a.1.0) (λ sizes ws₂.
    and_then (entries_from stop area sizes a.0.functions 2 [] ws₂) (λ entries ws₃.
    Ok (record { name = a.0.name; upper = a.0.upper; sizes = sizes; entries = entries }, ws₃))) d [] a.1.2 in
    let c = then_inv (entries_from stop area b.0 a.0.functions 2 [] b.1.0) (λ entries ws₃.
    Ok (record { name = a.0.name; upper = a.0.upper; sizes = b.0; entries = entries }, ws₃)) d [] b.1.2 in
    let is = ok_value (record { name = a.0.name; upper = a.0.upper; sizes = b.0; entries = c.0 }) d c.1.0 [] c.1.2 in
    omega (arith, ap (λ (d : Document). length d.sizes) is, sizes_long stop a.0.largest a.0.variables [] a.1.0 b.0 b.1.0 b.1.1, heading_some stop words a.0 a.1.0 a.1.1)

passed : (b : Bool) (x : Result Document Fault) (e : Fault) (d : Document) → cond b x (Err e) ≡ Ok d → x ≡ Ok d
passed true x e d h = h
passed false x e d h = absurd (let z : ◌≡◌ {A = ℕ} 0 1 = cc in omega arith)

kept : (b : Bool) (x : Result Document Fault) (e : Fault) (d : Document) → cond b x (Err e) ≡ Ok d → b ≡ true
kept true x e d h = refl
kept false x e d h = absurd (let z : ◌≡◌ {A = ℕ} 0 1 = cc in omega arith)

pub loaded_some : (text : List ℕ) (area : ℕ) (d : Document) → loading text area ≡ Ok d → 1 ≤ length (outlined d).sizes
loaded_some text area d h =
    let some = document_some (length text) area (words text) d (passed (leb 2 area && leb area 16384) _ _ d (passed (leb (length text) 65535) _ _ d h)) in
    omega (arith, some, ap length (entered_sizes (opened d.sizes) d.entries))

pub loaded_few : (text : List ℕ) (area : ℕ) (d : Document) → loading text area ≡ Ok d → area ≤ 16384
loaded_few text area d h =
    let whole = passed (leb (length text) 65535) (cond (leb 2 area && leb area 16384) (document (length text) area (words text)) (fault (Job Area) 0)) _ d h in
    leb-true area 16384 (and_parts (leb 2 area) (leb area 16384) (kept (leb 2 area && leb area 16384) (document (length text) area (words text)) _ d whole)).1
