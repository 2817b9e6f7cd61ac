-- The words of a text: its runs of bytes other than blanks, each with its place.
use Rattle.std.specs.Prelude.{ℕ, ◌+◌, Bool, cond, ◌||◌, List, [], ◌∷◌, drop, Some, None, Option, ◌==◌}

-- a word, and the offset of its first byte in the text
pub record Word : Type 0 where
  pub at : ℕ
  pub bytes : List ℕ

-- tab, line feed, carriage return and space
abbrev pub blank : ℕ → Bool
blank b = b == 9 || (b == 10 || (b == 13 || b == 32))

-- a byte belongs to the word that begins right after it, and is a word of its own where none does
abbrev pub begun : ℕ → ℕ → List Word → List Word
begun at b [] = record { at = at; bytes = b ∷ [] } ∷ []
begun at b (w ∷ ws) =
    cond (w.at == at + 1) (record { at = at; bytes = b ∷ w.bytes } ∷ ws) (record { at = at; bytes = b ∷ [] } ∷ w ∷ ws)

-- the words of a text whose first byte is at the offset: a blank is skipped
abbrev pub words_from : ℕ → List ℕ → List Word
words_from at [] = []
words_from at (b ∷ text) = cond (blank b) (words_from (at + 1) text) (begun at b (words_from (at + 1) text))

-- the words of a whole text
abbrev pub words : List ℕ → List Word
words text = words_from 0 text

-- the words left of a text from an offset on
abbrev pub left : List ℕ → ℕ → List Word
left text at = words_from at (drop at text)

-- the first word is the name
abbrev pub name_of : List Word → Option (List ℕ)
name_of [] = None
name_of (w ∷ ws) = Some w.bytes
