-- One more function of a text, behind those that are entered.
use Rattle.std.proofs.Common.{◌≡◌, ℕ, suc, ◌+◌, ◌-◌, ◌<◌, ◌≤◌, List, [], ◌∷◌, ◌++◌, length, take, drop, Ok, Err, sym, refl, ap, ◌∙◌, add-zero, arith}
use Rattle.std.proofs.lemmas.List.{append_assoc, append-nil, length-append, length-take-le, length_push, take_at, drop_at, drop-drop, take-append-drop}
use Rattle.variables.specs.Assignments.{cells}
use Rattle.problems.specs.Outlines.{Outline, entered}
use Rattle.words.specs.declared.fault.Fault.{Fault}
use Rattle.words.specs.Words.{Word}
use Rattle.words.specs.Readings.{Reading, and_then}
use Rattle.wcsp.specs.Layouts.{Entry, entry, entries_from}
use Rattle.wcsp.specs.Tables.{table_of, laid}
use Rattle.wcsp.specs.Described.{entered_all, tables}
use Rattle.wcsp.proofs.Entries.{length_table}

pub entered_push : (o : Outline) (es : List Entry) (e : Entry) → entered_all o (es ++ e ∷ []) ≡ entered (entered_all o es) e.scope
entered_push o [] e = refl
entered_push o (f ∷ es) e = entered_push (entered o f.scope) es e

pub entered_sizes : (o : Outline) (es : List Entry) → (entered_all o es).sizes ≡ o.sizes
entered_sizes o [] = refl
entered_sizes o (e ∷ es) = entered_sizes (entered o e.scope) es

pub entered_length : (o : Outline) (es : List Entry) → length (entered_all o es).functions ≡ length o.functions + length es
entered_length o [] = sym (add-zero (length o.functions))
entered_length o (e ∷ es) = omega (arith, entered_length (entered o e.scope) es, length_push o.functions (record { scope = e.scope; origin = 33; start = o.used }))

pub entered_used : (o : Outline) (es : List Entry) → (entered_all o es).used ≡ o.used + length (tables o.sizes es)
entered_used o [] = sym (add-zero o.used)
entered_used o (e ∷ es) =
    omega (arith, entered_used (entered o e.scope) es, length-append (table_of o.sizes e) (tables o.sizes es), length_table o.sizes e)

pub tables_push : (sizes : List ℕ) (es : List Entry) (e : Entry) → tables sizes (es ++ e ∷ []) ≡ tables sizes es ++ table_of sizes e
tables_push sizes [] e = append-nil (table_of sizes e)
tables_push sizes (f ∷ es) e = ap (λ ts. table_of sizes f ++ ts) (tables_push sizes es e) ∙ sym (append_assoc (table_of sizes f) (tables sizes es) (table_of sizes e))

-- a table behind another is one with it
pub laid_more : (area : List ℕ) (at : ℕ) (t u : List ℕ) → at ≤ length area → laid (laid area at t) (at + length t) u ≡ laid area at (t ++ u)
laid_more area at t u h =
    let rest = drop (at + length t) area in
    let front = length-take-le at area h in
    let regroup = sym (append_assoc (take at area) t rest) in
    let long : length (take at area ++ t) ≡ at + length t = omega (arith, length-append (take at area) t) in
    let before : take (at + length t) (laid area at t) ≡ take at area ++ t = ap (take (at + length t)) regroup ∙ take_at (take at area ++ t) rest (at + length t) long in
    let behind : drop (at + length t) (laid area at t) ≡ rest = ap (drop (at + length t)) regroup ∙ drop_at (take at area ++ t) rest (at + length t) long in
    let sum : at + length t + length u ≡ at + length (t ++ u) = omega (arith, length-append t u) in
    let after : drop (at + length t + length u) (laid area at t) ≡ drop (at + length (t ++ u)) area =
    sym (drop-drop (length u) (at + length t) (laid area at t)) ∙ ap (drop (length u)) behind ∙ drop-drop (length u) (at + length t) area ∙ ap (λ n. drop n area) sum in
    ap (λ xs. xs ++ (u ++ drop (at + length t + length u) (laid area at t))) before ∙ ap (λ xs. (take at area ++ t) ++ (u ++ xs)) after
    ∙ append_assoc (take at area) t (u ++ drop (at + length (t ++ u)) area) ∙ ap (λ xs. take at area ++ xs) (sym (append_assoc t u (drop (at + length (t ++ u)) area)))

pub laid_none : (area : List ℕ) (at : ℕ) → laid area at [] ≡ area
laid_none area at = ap (λ n. take at area ++ drop n area) (add-zero at) ∙ take-append-drop at area

-- a turn of the loop over functions
module _ (text text₀ area area₀ : List ℕ) (o o₀ : Outline) (done : List Entry) (count k : ℕ) (words : List Word)
    (whole : text ≡ text₀) (long : length area ≡ length area₀) (shape : o ≡ entered_all o₀ done) (h : k < count) where
  abbrev later : Entry → List Word → Reading (List Entry)
  later e ws = entries_from (length text₀) (length area₀) o₀.sizes (count - (k + 1)) (o.used + cells o₀.sizes e.scope) (done ++ e ∷ []) ws

  same_sizes : o.sizes ≡ o₀.sizes
  same_sizes = ap (λ (z : Outline). z.sizes) shape ∙ entered_sizes o₀ done

  split : entries_from (length text₀) (length area₀) o₀.sizes (count - k) o.used done words ≡ and_then (entry (length text) (length area) o.sizes o.used words) later
  split =
      let n : count - k ≡ suc (count - (k + 1)) = omega arith in
      ap (λ n. entries_from (length text₀) (length area₀) o₀.sizes n o.used done words) n
      ∙ ap (λ t. and_then (entry (length t) (length area₀) o₀.sizes o.used words) later) (sym whole)
      ∙ ap (λ n. and_then (entry (length text) n o₀.sizes o.used words) later) (sym long)
      ∙ ap (λ z. and_then (entry (length text) (length area) z o.used words) later) (sym same_sizes)

  pub entries_fault : (e : Fault) → entry (length text) (length area) o.sizes o.used words ≡ Err e
      → entries_from (length text₀) (length area₀) o₀.sizes (count - k) o.used done words ≡ Err e
  entries_fault e b = split ∙ ap (λ m. and_then m later) b

  pub entries_more : (o' : Outline) (e : Entry) (left : List Word) → entry (length text) (length area) o.sizes o.used words ≡ Ok (e, left) → o' ≡ entered o e.scope
      → entries_from (length text₀) (length area₀) o₀.sizes (count - k) o.used done words
      ≡ entries_from (length text₀) (length area₀) o₀.sizes (count - (k + 1)) o'.used (done ++ e ∷ []) left
  entries_more o' e left b s =
      let used : o.used + cells o₀.sizes e.scope ≡ o'.used = ap (λ z. o.used + cells z e.scope) (sym same_sizes) ∙ ap (λ (z : Outline). z.used) (sym s) in
      split ∙ ap (λ m. and_then m later) b ∙ ap (λ n. entries_from (length text₀) (length area₀) o₀.sizes (count - (k + 1)) n (done ++ e ∷ []) left) used

  pub outline_more : (o' : Outline) (e : Entry) → o' ≡ entered o e.scope → o' ≡ entered_all o₀ (done ++ e ∷ [])
  outline_more o' e s = s ∙ ap (λ z. entered z e.scope) shape ∙ sym (entered_push o₀ done e)

  -- the table is laid behind those that lie
  pub laid_behind : (e : Entry) → o₀.used ≤ length area₀ → laid (laid area₀ o₀.used (tables o₀.sizes done)) o.used (table_of o.sizes e) ≡ laid area₀ o₀.used (tables o₀.sizes (done ++ e ∷ []))
  laid_behind e room =
      let at = ap (λ (z : Outline). z.used) shape ∙ entered_used o₀ done in
      let base = laid area₀ o₀.used (tables o₀.sizes done) in
      ap (λ n. laid base n (table_of o.sizes e)) at ∙ ap (λ z. laid base (o₀.used + length (tables o₀.sizes done)) (table_of z e)) same_sizes
      ∙ laid_more area₀ o₀.used (tables o₀.sizes done) (table_of o₀.sizes e) room ∙ ap (laid area₀ o₀.used) (sym (tables_push o₀.sizes done e))
