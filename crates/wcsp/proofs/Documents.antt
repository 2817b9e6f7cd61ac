-- A document, put together from its parts, and the problem that it describes.
use Rattle.std.proofs.Common.{◌≡◌, ℕ, ◌+◌, ◌≤◌, List, [], ◌∷◌, ◌++◌, map, length, take, drop, Ok, sym, refl, ap, ◌∙◌, arith}
use Rattle.std.proofs.lemmas.List.{append_assoc, append-nil, length-append, length-take-le, take_at, drop_at}
use Rattle.problems.specs.Outlines.{Outline, opened, entered, problem}
use Rattle.variables.specs.Assignments.{cells}
use Rattle.problems.specs.Records.{Placed, function_in}
use Rattle.wcsp.specs.declared.heading.Heading.{Heading as Kept}
use Rattle.words.specs.declared.plain.Reader.{Reader}
use Rattle.words.specs.Words.{Word, words}
use Rattle.words.specs.Readers.{text_of, left_of}
use Rattle.wcsp.specs.Headings.{Heads}
use Rattle.words.specs.Readings.{nothing_left}
use Rattle.wcsp.specs.Layouts.{Heading, Entry, Document, heading, sizes_from, entries_from, document}
use Rattle.wcsp.specs.Tables.{table_of, laid}
use Rattle.wcsp.specs.Described.{entered_all, outlined, tables, function_of, described}
use Rattle.wcsp.proofs.Entries.{length_table}
use Rattle.wcsp.proofs.Turns.{entered_sizes, entered_used}

nothing : (ws : List Word) → Ok (tt {0}) ≡ nothing_left (tt {0}) ws → ws ≡ []
nothing [] h = refl
nothing (w ∷ ws) h = absurd (let z : ◌≡◌ {A = ℕ} 0 1 = cc in omega arith)

-- the parts of a whole text, read one after the other
module _ (text : List ℕ) (area : ℕ) (s s₁ s₂ s₃ : Reader) (kept : Kept) (sizes : List ℕ) (o o' : Outline)
    (whole : text_of s ≡ text) (start : left_of s ≡ words text) (k₁ : text_of s₁ ≡ text_of s) (k₂ : text_of s₂ ≡ text_of s₁)
    (h : Heading) (h₁ : heading (length (text_of s)) (left_of s) ≡ Ok (h, left_of s₁)) (h₂ : Heads kept h)
    (z : (y : List ℕ) × (sizes_from (length (text_of s₁)) kept.largest kept.variables [] (left_of s₁) ≡ Ok (y, left_of s₂)) × (sizes ≡ y))
    (open' : o ≡ opened sizes)
    (es : List Entry) (e : entries_from (length (text_of s₂)) area o.sizes kept.functions o.used [] (left_of s₂) ≡ Ok (es, left_of s₃))
    (last : Ok (tt {0}) ≡ nothing_left (tt {0}) (left_of s₃)) where
  pub read_document : document (length text) area (words text) ≡ Ok (record { name = h.name; upper = h.upper; sizes = sizes; entries = es })
  read_document =
      let z₁ = z.1 in
      let z₂ = z.2 in
      let v = h₂.variables in
      let l = h₂.largest in
      let f = h₂.functions in
      let n = nothing (left_of s₃) last in
      let oz = ap (λ (o : Outline). o.sizes) open' in
      let ou = ap (λ (o : Outline). o.used) open' in
      cc

-- where entered functions have their tables
abbrev placed_from : List ℕ → ℕ → List Entry → List Placed
placed_from sizes at [] = []
placed_from sizes at (e ∷ es) = record { scope = e.scope; origin = 33; start = at } ∷ placed_from sizes (at + cells sizes e.scope) es

entered_placed : (o : Outline) (es : List Entry) → (entered_all o es).functions ≡ o.functions ++ placed_from o.sizes o.used es
entered_placed o [] = sym (append-nil o.functions)
entered_placed o (e ∷ es) =
    entered_placed (entered o e.scope) es ∙ append_assoc o.functions (record { scope = e.scope; origin = 33; start = o.used } ∷ []) (placed_from o.sizes (o.used + cells o.sizes e.scope) es)

entered_order : (o : Outline) (es : List Entry) → (entered_all o es).order ≡ o.order
entered_order o [] = refl
entered_order o (e ∷ es) = entered_order (entered o e.scope) es

-- tables that lie one behind the other are found at their places
tables_there : (sizes : List ℕ) (es : List Entry) (before behind : List ℕ) (at : ℕ) → length before ≡ at
    → map (function_in sizes (before ++ (tables sizes es ++ behind))) (placed_from sizes at es) ≡ map (function_of sizes) es
tables_there sizes [] before behind at h = refl
tables_there sizes (e ∷ es) before behind at h =
    let t = table_of sizes e in
    let rest = tables sizes es ++ behind in
    let long = length_table sizes e in
    let regroup : before ++ (tables sizes (e ∷ es) ++ behind) ≡ (before ++ t) ++ rest = ap (λ xs. before ++ xs) (append_assoc t (tables sizes es) behind) ∙ sym (append_assoc before t rest) in
    let here : take (cells sizes e.scope) (drop at (before ++ (tables sizes (e ∷ es) ++ behind))) ≡ t =
    ap (take (cells sizes e.scope)) (drop_at before (tables sizes (e ∷ es) ++ behind) at h ∙ append_assoc t (tables sizes es) behind) ∙ take_at t rest (cells sizes e.scope) long in
    let next : length (before ++ t) ≡ at + cells sizes e.scope = omega (arith, length-append before t) in
    let others = ap (λ a. map (function_in sizes a) (placed_from sizes (at + cells sizes e.scope) es)) regroup ∙ tables_there sizes es (before ++ t) behind (at + cells sizes e.scope) next in
    ap (λ t. record { scope = e.scope; table = t } ∷ map (function_in sizes (before ++ (tables sizes (e ∷ es) ++ behind))) (placed_from sizes (at + cells sizes e.scope) es)) here
    ∙ ap (λ fs. function_of sizes e ∷ fs) others

module _ (d : Document) (area area' : List ℕ) (room : 2 ≤ length area) (same : area' ≡ laid area 2 (tables d.sizes d.entries)) where
  abbrev o : Outline
  o = outlined d

  pub problem_there : problem o area' ≡ described d
  problem_there =
      let sizes = entered_sizes (opened d.sizes) d.entries in
      let order = entered_order (opened d.sizes) d.entries in
      let placed = entered_placed (opened d.sizes) d.entries in
      let functions : map (function_in o.sizes area') o.functions ≡ map (function_of d.sizes) d.entries =
      ap (λ z. map (function_in z area') o.functions) sizes ∙ ap (map (function_in d.sizes area')) placed ∙ ap (λ a. map (function_in d.sizes a) (placed_from d.sizes 2 d.entries)) same
      ∙ tables_there d.sizes d.entries (take 2 area) (drop (2 + length (tables d.sizes d.entries)) area) 2 (length-take-le 2 area room) in
      cc

  pub before_same : take 2 area' ≡ take 2 area
  before_same = ap (take 2) same ∙ take_at (take 2 area) _ 2 (length-take-le 2 area room)

  pub behind_same : drop o.used area' ≡ drop o.used area
  behind_same =
      let ts = tables d.sizes d.entries in
      let rest = drop (2 + length ts) area in
      let long : length (take 2 area ++ ts) ≡ 2 + length ts = omega (arith, length-append (take 2 area) ts, length-take-le 2 area room) in
      let used = entered_used (opened d.sizes) d.entries in
      ap (λ n. drop n area') used ∙ ap (drop (2 + length ts)) (same ∙ sym (append_assoc (take 2 area) ts rest)) ∙ drop_at (take 2 area ++ ts) rest (2 + length ts) long ∙ ap (λ n. drop n area) (sym used)
