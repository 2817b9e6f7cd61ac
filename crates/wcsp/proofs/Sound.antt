-- What was read keeps the rules: scopes repeat no variable, and listed tuples fit.
use Rattle.std.proofs.Common.{◌≡◌, ℕ, zero, suc, ◌+◌, true, not, ◌&&◌, ltb, List, [], ◌∷◌, ◌++◌, length, get_or, Ok, Err, sym, refl, ap, ◌∙◌, subst, arith}
use Rattle.std.proofs.lemmas.List.{append_assoc, append-nil}
use Rattle.std.proofs.lemmas.Bool.{and_parts, and_from}
use Rattle.variables.specs.declared.refusal.Refusal.TheVariants.{Scope, Tuple}
use Rattle.variables.specs.Lists.{has, distinct}
use Rattle.variables.specs.Assignments.{cells}
use Rattle.variables.specs.Rules.{fits}
use Rattle.variables.proofs.Listings.{distinct_push}
use Rattle.words.specs.Words.{Word}
use Rattle.words.specs.Readings.{Reading, and_then, nothing_left}
use Rattle.words.specs.Ruled.{any, number_by}
use Rattle.wcsp.specs.Rules.{arity_rule, variable_rule, room_rule, value_rule}
use Rattle.wcsp.specs.Layouts.{Listed, Entry, Heading, Document, heading, sizes_from, scope_from, scoped, tuple_from, listing, listed_from, listings, entry, entries_from, all_of, document}
use Rattle.words.proofs.Rulings.{rule_kept, kept_true}

-- what was read after something was
pub then_inv : {A B : Type 0} (m : Reading A) (f : A → List Word → Reading B) (y : B) (left : List Word) → and_then m f ≡ Ok (y, left) → (x : A) × ((ws : List Word) × (m ≡ Ok (x, ws)) × (f x ws ≡ Ok (y, left)))
then_inv (Ok p) f y left h = (p.0, (p.1, refl, h))
then_inv (Err e) f y left h = absurd (let z : ◌≡◌ {A = ℕ} 0 1 = cc in omega arith)

pub ok_value : {A : Type 0} (x y : A) (ws left : List Word) → ◌≡◌ {A = Reading A} (Ok (x, ws)) (Ok (y, left)) → x ≡ y
ok_value {A} x y ws left h = let e : ◌≡◌ {A = A × List Word} (x, ws) (y, left) = cc in ap (λ p. p.0) e

-- the parts of a function that was read
pub record EntryParts (stop area : ℕ) (sizes : List ℕ) (used : ℕ) (words : List Word) (e : Entry) : Type 0 where
  pub ws₁ : List Word
  pub ws₂ : List Word
  pub ws₃ : List Word
  pub scope : scoped stop (length sizes) words ≡ Ok (e.scope, ws₁)
  pub usual : number_by stop (room_rule area used (cells sizes e.scope)) ws₁ ≡ Ok (e.usual, ws₂)
  pub listed : listings stop sizes e.scope ws₂ ≡ Ok (e.listed, ws₃)

pub entry_parts : (stop area : ℕ) (sizes : List ℕ) (used : ℕ) (words : List Word) (e : Entry) (left : List Word) → entry stop area sizes used words ≡ Ok (e, left) → EntryParts stop area sizes used words e
entry_parts stop area sizes used words e left h =
    let a = then_inv (scoped stop (length sizes) words) (λ scope ws₁.
    and_then (number_by stop (room_rule area used (cells sizes scope)) ws₁) (λ usual ws₂.
    and_then (listings stop sizes scope ws₂) (λ listed ws₃.
    Ok (record { scope = scope; usual = usual; listed = listed }, ws₃)))) e left h in
    let scope = a.0 in
    let b = then_inv (number_by stop (room_rule area used (cells sizes scope)) a.1.0) (λ usual ws₂.
    and_then (listings stop sizes scope ws₂) (λ listed ws₃.
    Ok (record { scope = scope; usual = usual; listed = listed }, ws₃))) e left a.1.2 in
    let c = then_inv (listings stop sizes scope b.1.0) (λ listed ws₃. Ok (record { scope = scope; usual = b.0; listed = listed }, ws₃)) e left b.1.2 in
    let is = ok_value (record { scope = scope; usual = b.0; listed = c.0 }) e c.1.0 left c.1.2 in
    subst (EntryParts stop area sizes used words) is (record {
      ws₁ = a.1.0;
      ws₂ = b.1.0;
      ws₃ = c.1.0;
      scope = a.1.1;
      usual = b.1.1;
      listed = c.1.1;
    })

left_inv : (x : Document) (ws : List Word) (d : Document) → nothing_left x ws ≡ Ok d → ◌≡◌ {A = Reading Document} (Ok (x, ws)) (Ok (d, []))
left_inv x [] d h = cc
left_inv x (w ∷ ws) d h = absurd (let z : ◌≡◌ {A = ℕ} 0 1 = cc in omega arith)

pub all_inv : (m : Reading Document) (d : Document) → all_of m ≡ Ok d → m ≡ Ok (d, [])
all_inv (Ok p) d h = left_inv p.0 p.1 d h
all_inv (Err e) d h = absurd (let z : ◌≡◌ {A = ℕ} 0 1 = cc in omega arith)

-- the parts of a whole text that was read
pub record Parts (stop area : ℕ) (words : List Word) (d : Document) : Type 0 where
  pub h : Heading
  pub ws₁ : List Word
  pub ws₂ : List Word
  pub ws₃ : List Word
  pub name : h.name ≡ d.name
  pub heads : heading stop words ≡ Ok (h, ws₁)
  pub sizes : sizes_from stop h.largest h.variables [] ws₁ ≡ Ok (d.sizes, ws₂)
  pub entries : entries_from stop area d.sizes h.functions 2 [] ws₂ ≡ Ok (d.entries, ws₃)

pub document_parts : (stop area : ℕ) (words : List Word) (d : Document) → document stop area words ≡ Ok d → Parts stop area words d
document_parts stop area words d h =
    let m = all_inv (and_then (heading stop words) (λ h ws₁.
    and_then (sizes_from stop h.largest h.variables [] ws₁) (λ sizes ws₂.
    and_then (entries_from stop area sizes h.functions 2 [] ws₂) (λ entries ws₃.
    Ok (record { name = h.name; upper = h.upper; sizes = sizes; entries = entries }, ws₃))))) d h in
    let a = then_inv (heading stop words) (λ h ws₁.
    and_then (sizes_from stop h.largest h.variables [] ws₁) (λ sizes ws₂.
    and_then (entries_from stop area sizes h.functions 2 [] ws₂) (λ entries ws₃.
    Ok (record { name = h.name; upper = h.upper; sizes = sizes; entries = entries }, ws₃)))) d [] m in
    let b = then_inv (sizes_from stop a.0.largest a.0.variables [] a.1.0) (λ sizes ws₂.
    and_then (entries_from stop area sizes a.0.functions 2 [] ws₂) (λ entries ws₃.
    Ok (record { name = a.0.name; upper = a.0.upper; sizes = sizes; entries = entries }, ws₃))) d [] a.1.2 in
    let c = then_inv (entries_from stop area b.0 a.0.functions 2 [] b.1.0) (λ entries ws₃.
    Ok (record { name = a.0.name; upper = a.0.upper; sizes = b.0; entries = entries }, ws₃)) d [] b.1.2 in
    let is = ok_value (record { name = a.0.name; upper = a.0.upper; sizes = b.0; entries = c.0 }) d c.1.0 [] c.1.2 in
    subst (Parts stop area words) is (record {
      h = a.0;
      ws₁ = a.1.0;
      ws₂ = b.1.0;
      ws₃ = c.1.0;
      name = refl;
      heads = a.1.1;
      sizes = b.1.1;
      entries = c.1.1;
    })

module _ (stop : ℕ) (sizes : List ℕ) where
  tuple_fits : (vs done : List ℕ) (words : List Word) (tuple : List ℕ) (left : List Word) → tuple_from stop sizes vs done words ≡ Ok (tuple, left)
      → (rest : List ℕ) × (tuple ≡ done ++ rest) × (fits sizes vs rest ≡ true)
  tuple_fits [] done words tuple left h = ([], sym (ok_value done tuple words left h) ∙ sym (append-nil done), refl)
  tuple_fits (v ∷ vs) done words tuple left h =
      let inv = then_inv (number_by stop (value_rule (get_or sizes v 0)) words) (λ value ws. tuple_from stop sizes vs (done ++ value ∷ []) ws) tuple left h in
      let x = inv.0 in
      let ih = tuple_fits vs (done ++ x ∷ []) inv.1.0 tuple left inv.1.2 in
      let low = kept_true (ltb x (get_or sizes v 0)) Tuple (rule_kept stop (value_rule (get_or sizes v 0)) words x inv.1.0 inv.1.1) in
      (x ∷ ih.0, ih.1 ∙ append_assoc done (x ∷ []) ih.0, and_from _ _ low ih.2)

  -- every listed tuple fits its scope
  abbrev pub AllFit : List ℕ → List Listed → Type 0
  AllFit scope [] = Unit {0}
  AllFit scope (one ∷ ls) = (fits sizes scope one.tuple ≡ true) × AllFit scope ls

  all_push : (scope : List ℕ) (ls : List Listed) (one : Listed) → AllFit scope ls → fits sizes scope one.tuple ≡ true → AllFit scope (ls ++ one ∷ [])
  all_push scope [] one all fit = (fit, tt)
  all_push scope (l ∷ ls) one all fit = (all.0, all_push scope ls one all.1 fit)

  listing_fits : (scope : List ℕ) (words : List Word) (one : Listed) (left : List Word) → listing stop sizes scope words ≡ Ok (one, left) → fits sizes scope one.tuple ≡ true
  listing_fits scope words one left h =
      let a = then_inv (tuple_from stop sizes scope [] words) (λ tuple ws₁. and_then (number_by stop any ws₁) (λ cost ws₂. Ok (record { tuple = tuple; cost = cost }, ws₂))) one left h in
      let b = then_inv (number_by stop any a.1.0) (λ cost ws₂. Ok (record { tuple = a.0; cost = cost }, ws₂)) one left a.1.2 in
      let is = ap (λ (l : Listed). l.tuple) (ok_value (record { tuple = a.0; cost = b.0 }) one b.1.0 left b.1.2) in
      let t = tuple_fits scope [] words a.0 a.1.0 a.1.1 in
      ap (fits sizes scope) (sym is ∙ t.1) ∙ t.2

  listed_fit : (scope : List ℕ) (k : ℕ) (done : List Listed) (words : List Word) (ls : List Listed) (left : List Word) → AllFit scope done → listed_from stop sizes scope k done words ≡ Ok (ls, left) → AllFit scope ls
  listed_fit scope zero done words ls left all h = subst (AllFit scope) (ok_value done ls words left h) all
  listed_fit scope (suc k) done words ls left all h =
      let a = then_inv (listing stop sizes scope words) (λ one ws. listed_from stop sizes scope k (done ++ one ∷ []) ws) ls left h in
      listed_fit scope k (done ++ a.0 ∷ []) a.1.0 ls left (all_push scope done a.0 all (listing_fits scope words a.0 a.1.0 a.1.1)) a.1.2

  scope_distinct : (n k : ℕ) (done : List ℕ) (words : List Word) (scope : List ℕ) (left : List Word) → distinct done ≡ true → scope_from stop n k done words ≡ Ok (scope, left) → distinct scope ≡ true
  scope_distinct n zero done words scope left d h = ap distinct (sym (ok_value done scope words left h)) ∙ d
  scope_distinct n (suc k) done words scope left d h =
      let a = then_inv (number_by stop (variable_rule n done) words) (λ v ws. scope_from stop n k (done ++ v ∷ []) ws) scope left h in
      let v = a.0 in
      let rule = kept_true (ltb v n && not (has done v)) Scope (rule_kept stop (variable_rule n done) words v a.1.0 a.1.1) in
      let new = (and_parts (ltb v n) (not (has done v)) rule).1 in
      scope_distinct n k (done ++ v ∷ []) a.1.0 scope left (distinct_push done v ∙ and_from (distinct done) (not (has done v)) d new) a.1.2

  -- a function that keeps the rules
  abbrev pub Sound : Entry → Type 0
  Sound e = (distinct e.scope ≡ true) × AllFit e.scope e.listed

  entry_sound : (area used : ℕ) (words : List Word) (e : Entry) (left : List Word) → entry stop area sizes used words ≡ Ok (e, left) → Sound e
  entry_sound area used words e left h =
      let p = entry_parts stop area sizes used words e left h in
      let s = then_inv (number_by stop arity_rule words) (λ arity ws. scope_from stop (length sizes) arity [] ws) e.scope p.ws₁ p.scope in
      let l = then_inv (number_by stop any p.ws₂) (λ count ws. listed_from stop sizes e.scope count [] ws) e.listed p.ws₃ p.listed in (
        scope_distinct (length sizes) s.0 [] s.1.0 e.scope p.ws₁ refl s.1.2,
        listed_fit e.scope l.0 [] l.1.0 e.listed p.ws₃ tt l.1.2,
      )

  abbrev pub AllSound : List Entry → Type 0
  AllSound [] = Unit {0}
  AllSound (e ∷ es) = Sound e × AllSound es

  sound_push : (es : List Entry) (e : Entry) → AllSound es → Sound e → AllSound (es ++ e ∷ [])
  sound_push [] e all s = (s, tt)
  sound_push (f ∷ es) e all s = (all.0, sound_push es e all.1 s)

  entries_sound : (area k used : ℕ) (done : List Entry) (words : List Word) (es : List Entry) (left : List Word) → AllSound done → entries_from stop area sizes k used done words ≡ Ok (es, left) → AllSound es
  entries_sound area zero used done words es left all h = subst AllSound (ok_value done es words left h) all
  entries_sound area (suc k) used done words es left all h =
      let a = then_inv (entry stop area sizes used words) (λ e ws. entries_from stop area sizes k (used + cells sizes e.scope) (done ++ e ∷ []) ws) es left h in
      entries_sound area k (used + cells sizes a.0.scope) (done ++ a.0 ∷ []) a.1.0 es left (sound_push done a.0 all (entry_sound area used words a.0 a.1.0 a.1.1)) a.1.2

-- the functions of a text that was read keep the rules
pub document_sound : (stop area : ℕ) (words : List Word) (d : Document) → document stop area words ≡ Ok d → AllSound stop d.sizes d.entries
document_sound stop area words d h =
    let p = document_parts stop area words d h in
    entries_sound stop d.sizes area p.h.functions 2 [] p.ws₂ d.entries p.ws₃ tt p.entries
