-- The first word of a text: the blanks before it are skipped, and it goes on to the next blank.
use Rattle.std.proofs.Common.{◌≡◌, ℕ, suc, true, false, ◌+◌, ◌-◌, ◌<◌, ◌≤◌, eqb, List, [], ◌∷◌, length, take, drop, length-drop, sym, refl, ap, ◌∙◌, inl, inr, add-zero, arith}
use Rattle.std.proofs.lemmas.List.{drop-drop, take_all}
use Rattle.std.proofs.lemmas.Bool.{cond-true, cond-false, cond_both, cases_Bool, eq-eqb, ne_eqb}
use Rattle.words.specs.Words.{Word, blank, begun, words_from, left}
use Rattle.words.specs.Runs.{blanks, run}

-- the rest of a text from an offset on, as a part of it
pub rest_whole : (text : List ℕ) (at : ℕ) → take (length text - at) (drop at text) ≡ drop at text
rest_whole text at = take_all (length text - at) (drop at text) (omega (arith, length-drop at text))

-- how a first byte counts
blank_first : (b : ℕ) (text : List ℕ) → blank b ≡ true → blanks (b ∷ text) ≡ suc (blanks text)
blank_first b text e = grind arith

other_first : (b : ℕ) (text : List ℕ) → blank b ≡ false → blanks (b ∷ text) ≡ 0
other_first b text e = grind arith

run_ends : (b : ℕ) (text : List ℕ) → blank b ≡ true → run (b ∷ text) ≡ 0
run_ends b text e = grind arith

run_first : (b : ℕ) (text : List ℕ) → blank b ≡ false → run (b ∷ text) ≡ suc (run text)
run_first b text e = grind arith

-- no word begins before the offset
abbrev NotBefore : ℕ → List Word → Type 0
NotBefore n [] = Unit {0}
NotBefore n (w ∷ ws) = n ≤ w.at

later : (m n : ℕ) (ws : List Word) → m ≤ n → NotBefore n ws → NotBefore m ws
later m n [] h k = tt
later m n (w ∷ ws) h k = omega arith

begun_at : (at b : ℕ) (ws : List Word) → NotBefore at (begun at b ws)
begun_at at b [] = omega arith
begun_at at b (w ∷ ws) = cond_both (eqb w.at (at + 1)) _ _ (NotBefore at) (λ _. omega arith) (λ _. omega arith)

from_there : (at : ℕ) (text : List ℕ) → NotBefore at (words_from at text)
from_there at [] = tt
from_there at (b ∷ text) =
    cond_both (blank b) _ _ (NotBefore at) (λ _. later at (at + 1) _ (omega arith) (from_there (at + 1) text)) (λ _. begun_at at b _)

-- blanks at the front make no difference
pub skipped : (at : ℕ) (text : List ℕ) → words_from at text ≡ words_from (at + blanks text) (drop (blanks text) text)
skipped at [] = refl
skipped at (b ∷ text) =
    elim (cases_Bool (blank b)) [
      | inl e ↦
          let n : at + 1 + blanks text ≡ at + suc (blanks text) = omega arith in
          cond-true (blank b) _ _ e ∙ skipped (at + 1) text ∙ ap (λ k. words_from k (drop (blanks text) text)) n ∙ ap (λ k. words_from (at + k) (drop k (b ∷ text))) (sym (blank_first b text e))
      | inr e ↦
          ap (λ k. words_from k (b ∷ text)) (sym (add-zero at)) ∙ ap (λ k. words_from (at + k) (drop k (b ∷ text))) (sym (other_first b text e))
    ]

-- a word and what follows it, where it has n bytes
abbrev pub parted : ℕ → ℕ → List ℕ → List Word
parted at n text = record { at = at; bytes = take n text } ∷ words_from (at + n) (drop n text)

-- a byte before words that begin later is a word of its own
alone : (at b : ℕ) (ws : List Word) → NotBefore (at + 2) ws → begun at b ws ≡ record { at = at; bytes = b ∷ [] } ∷ ws
alone at b [] h = refl
alone at b (w ∷ ws) h = cond-false (eqb w.at (at + 1)) _ _ (ne_eqb _ _ (λ e. omega arith))

-- a byte and the run after it are one word
grown : (at b : ℕ) (text : List ℕ) → begun at b (words_from (at + 1) text) ≡ parted at (suc (run text)) (b ∷ text)
grown at b [] = refl
grown at b (d ∷ text) =
    elim (cases_Bool (blank d)) [
      | inl e ↦
          let more : words_from (at + 1) (d ∷ text) ≡ words_from (at + 1 + 1) text = cond-true (blank d) _ _ e in
          let none = run_ends d text e in
          ap (begun at b) more ∙ alone at b _ (later (at + 2) (at + 1 + 1) _ (omega arith) (from_there (at + 1 + 1) text)) ∙ ap (λ ws. record { at = at; bytes = b ∷ [] } ∷ ws) (sym more) ∙ ap (λ n. parted at (suc n) (b ∷ d ∷ text)) (sym none)
      | inr e ↦
          let more : words_from (at + 1) (d ∷ text) ≡ begun (at + 1) d (words_from (at + 1 + 1) text) = cond-false (blank d) _ _ e in
          let r = run_first d text e in
          let n : at + 1 + suc (run text) ≡ at + suc (suc (run text)) = omega arith in
          ap (begun at b) (more ∙ grown (at + 1) d text) ∙ cond-true (eqb (at + 1) (at + 1)) _ _ (eq-eqb _ _ refl) ∙ ap (λ k. record { at = at; bytes = b ∷ d ∷ take (run text) text } ∷ words_from k (drop (run text) text)) n ∙ ap (λ k. parted at (suc k) (b ∷ d ∷ text)) (sym r)
    ]

-- after the blanks stands no blank
solid : (text : List ℕ) → blanks (drop (blanks text) text) ≡ 0
solid [] = refl
solid (b ∷ text) =
    elim (cases_Bool (blank b)) [
      | inl e ↦
          ap (λ k. blanks (drop k (b ∷ text))) (blank_first b text e) ∙ solid text
      | inr e ↦
          ap (λ k. blanks (drop k (b ∷ text))) (other_first b text e) ∙ other_first b text e
    ]

-- a text with no blank in front, and a run, begins with that run as its word
headed : (at : ℕ) (text : List ℕ) → blanks text ≡ 0 → 0 < run text → words_from at text ≡ parted at (run text) text
headed at [] z h = absurd (omega arith)
headed at (b ∷ text) z h =
    elim (cases_Bool (blank b)) [
      | inl e ↦
          absurd (omega (arith, run_ends b text e))
      | inr e ↦
          cond-false (blank b) _ _ e ∙ grown at b text ∙ ap (λ k. parted at k (b ∷ text)) (sym (run_first b text e))
    ]

-- a text with neither blanks nor a run in front is empty
bare : (text : List ℕ) → blanks text ≡ 0 → run text ≡ 0 → text ≡ []
bare [] z r = refl
bare (b ∷ text) z r =
    elim (cases_Bool (blank b)) [
      | inl e ↦
          absurd (omega (arith, blank_first b text e))
      | inr e ↦
          absurd (omega (arith, run_first b text e))
    ]

-- the first word from an offset on lies between the end of the blanks and the end of the run
module _ (text : List ℕ) (at from to : ℕ) (f : from ≡ at + blanks (drop at text)) (t : to ≡ from + run (drop from text)) where
  dropped : drop from text ≡ drop (blanks (drop at text)) (drop at text)
  dropped = ap (λ k. drop k text) f ∙ sym (drop-drop (blanks (drop at text)) at text)

  unblank : blanks (drop from text) ≡ 0
  unblank = ap blanks dropped ∙ solid (drop at text)

  same : left text at ≡ left text from
  same = skipped at (drop at text) ∙ ap (λ k. words_from k (drop (blanks (drop at text)) (drop at text))) (sym f) ∙ ap (words_from from) (sym dropped)

  pub found : from < to → left text at ≡ record { at = from; bytes = take (to - from) (drop from text) } ∷ left text to
  found h =
      let n : run (drop from text) ≡ to - from = omega arith in
      let e : from + (to - from) ≡ to = omega arith in
      same ∙ headed from (drop from text) unblank (omega arith) ∙ ap (λ k. parted from k (drop from text)) n ∙ ap (λ ws. record { at = from; bytes = take (to - from) (drop from text) } ∷ ws) (ap (words_from (from + (to - from))) (drop-drop (to - from) from text) ∙ ap (left text) e)

  pub none : to ≤ from → left text at ≡ []
  none h = same ∙ ap (words_from from) (bare (drop from text) unblank (omega arith))

  pub still : to ≤ from → left text to ≡ []
  still h =
      let e : to ≡ from = omega arith in
      ap (left text) e ∙ sym same ∙ none h
