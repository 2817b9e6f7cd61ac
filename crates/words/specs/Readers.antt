-- A reader stands for the words that it has yet to read.
use Rattle.std.specs.Prelude.{ℕ, List, Ok, Err, Result}
use Rattle.words.specs.declared.fault.Fault.{Fault}
use Rattle.words.specs.declared.plain.Reader.{Reader}
use Rattle.words.specs.declared.reader.Word.{Word as Lent}
use Rattle.words.specs.Words.{Word, left}

-- the whole text
abbrev pub text_of : Reader → List ℕ
text_of r = r.text.now

-- the words that it has yet to read
abbrev pub left_of : Reader → List Word
left_of r = left r.text.now r.at

-- the word that a part of the text is
abbrev pub word_of : Lent → Word
word_of w = record { at = w.at; bytes = w.bytes.now }

-- the same of an answer
abbrev pub seen : Result Lent Fault → Result Word Fault
seen (Ok w) = Ok (word_of w)
seen (Err e) = Err e
