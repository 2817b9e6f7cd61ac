-- The name of a text that was read is its first word.
use Rattle.std.proofs.Common.{◌≡◌, ℕ, List, [], ◌∷◌, Some, Ok, ap, ◌∙◌, arith}
use Rattle.words.specs.Words.{Word, name_of}
use Rattle.words.specs.Readings.{Reading, and_then, next}
use Rattle.words.specs.Ruled.{any, number_by}
use Rattle.wcsp.specs.Rules.{variables_rule, count_rule}
use Rattle.wcsp.specs.Layouts.{Heading, Document, heading, document}
use Rattle.wcsp.proofs.Sound.{then_inv, ok_value, document_parts}

first_name : (stop : ℕ) (words : List Word) (w : Word) (left : List Word) → next stop words ≡ Ok (w, left) → name_of words ≡ Some w.bytes
first_name stop [] w left h = grind arith
first_name stop (v ∷ words) w left h = ap (λ (u : Word). Some u.bytes) (ok_value v w words left h)

-- what holds of whatever is read
abbrev Always : {A : Type 0} → (A → Type 0) → Reading A → Type 0
Always {A} P m = (x : A) (left : List Word) → m ≡ Ok (x, left) → P x

always_then : {A B : Type 0} (P : B → Type 0) (m : Reading A) (f : A → List Word → Reading B) → ((x : A) (ws : List Word) → Always P (f x ws)) → Always P (and_then m f)
always_then P m f h y left k = let inv = then_inv m f y left k in h inv.0 inv.1.0 y left inv.1.2

heading_name : (stop : ℕ) (words : List Word) (h : Heading) (left : List Word) → heading stop words ≡ Ok (h, left) → name_of words ≡ Some h.name
heading_name stop words h left k =
    let P : Heading → Type 0 = λ h. name_of words ≡ Some h.name in
    let first = then_inv (next stop words) (λ name ws₁.
    and_then (number_by stop variables_rule ws₁) (λ variables ws₂.
    and_then (number_by stop any ws₂) (λ largest ws₃.
    and_then (number_by stop count_rule ws₃) (λ functions ws₄.
    and_then (number_by stop any ws₄) (λ upper ws₅.
    Ok (record { name = name.bytes; variables = variables; largest = largest; functions = functions; upper = upper }, ws₅)))))) h left k in
    let w = first.0 in
    let named = first_name stop words w first.1.0 first.1.1 in
    always_then P (number_by stop variables_rule first.1.0) _ (λ variables ws₂.
    always_then P (number_by stop any ws₂) _ (λ largest ws₃.
    always_then P (number_by stop count_rule ws₃) _ (λ functions ws₄.
    always_then P (number_by stop any ws₄) _ (λ upper ws₅ x left e.
    named ∙ ap (λ (h : Heading). Some h.name) (ok_value (record { name = w.bytes; variables = variables; largest = largest; functions = functions; upper = upper }) x ws₅ left e))))) h left first.1.2

pub document_name : (stop area : ℕ) (words : List Word) (d : Document) → document stop area words ≡ Ok d → name_of words ≡ Some d.name
document_name stop area words d h =
    let p = document_parts stop area words d h in
    heading_name stop words p.h p.ws₁ p.heads ∙ ap Some p.name
