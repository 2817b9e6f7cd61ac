-- How many bytes at the front of a text are blanks, and how many are none.
use Rattle.std.specs.Prelude.{ℕ, not, List}
use Rattle.std.specs.List.{prefix_len}
use Rattle.words.specs.Words.{blank}

-- the blanks before the first byte of a word
abbrev pub blanks : List ℕ → ℕ
blanks text = prefix_len blank text

-- the bytes before the first blank
abbrev pub run : List ℕ → ℕ
run text = prefix_len (λ b. not (blank b)) text
