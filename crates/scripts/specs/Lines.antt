-- The words of a line.
use Rattle.std.specs.Prelude.{ℕ, List, [], ◌∷◌, Some, None, Option}
use Rattle.words.specs.Words.{Word}

-- the bytes of the first word, if there is one
abbrev pub first_word : List Word → Option (List ℕ)
first_word [] = None
first_word (w ∷ ws) = Some w.bytes
