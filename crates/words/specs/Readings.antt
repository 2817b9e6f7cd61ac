-- Reading words one after the other, until a fault.
use Rattle.std.specs.Prelude.{◌≡◌, ℕ, List, [], ◌∷◌, Some, None, Ok, Err, Option, Result}
use Rattle.words.specs.declared.fault.Fault.{Fault}
use Rattle.words.specs.declared.fault.Flaw.{Flaw}
use Rattle.words.specs.declared.fault.Flaw.TheVariants.{Ended, NoNumber, LeftOver}
use Rattle.words.specs.declared.number.Number.{Number}
use Rattle.words.specs.Numbers.{number}
use Rattle.words.specs.Words.{Word}

-- what comes of reading: a value and the words left, or a fault
abbrev pub Reading : Type 0 → Type 0
Reading A = Result (A × List Word) Fault

-- what is read next goes on from the words left, and a fault ends it
abbrev pub and_then : {A B : Type 0} → Reading A → (A → List Word → Reading B) → Reading B
and_then (Ok p) f = f p.0 p.1
and_then (Err e) f = Err e

-- a flaw at a place
abbrev pub fault : {A : Type 0} → Flaw → ℕ → Result A Fault
fault flaw at = Err (record { flaw = flaw; at = at })

-- the first word; where there is none the text has ended, at `stop`
abbrev pub next : ℕ → List Word → Reading Word
next stop [] = fault Ended stop
next stop (w ∷ ws) = Ok (w, ws)

-- the words after the first
abbrev pub rest_of : List Word → List Word
rest_of [] = []
rest_of (w ∷ ws) = ws

-- what a call answers, with the words that it leaves
abbrev pub answered : {A : Type 0} → Result A Fault → List Word → Reading A
answered (Ok x) ws = Ok (x, ws)
answered (Err e) ws = Err e

-- a call answers as a reading does: its value is, in the sense of `Is`, what was read, with the words that it leaves; or it has the fault
abbrev pub Agrees : {A B : Type 0} → Reading B → Result A Fault → List Word → (A → B → Type 0) → Type 0
Agrees {A} {B} reading (Ok x) ws Is = (y : B) × (reading ≡ Ok (y, ws)) × Is x y
Agrees reading (Err e) ws Is = reading ≡ Err e

-- the same of a reading that leaves nothing
abbrev pub Says : {A B : Type 0} → Result B Fault → Result A Fault → (A → B → Type 0) → Type 0
Says {A} {B} whole (Ok x) Is = (y : B) × (whole ≡ Ok y) × Is x y
Says whole (Err e) Is = whole ≡ Err e

-- a number with its word's place, or that the word spells none
abbrev pub spelled : ℕ → Option ℕ → List Word → Reading Number
spelled at None ws = fault NoNumber at
spelled at (Some n) ws = Ok (record { value = n; at = at }, ws)

-- the first word, as a number
abbrev pub numeral : ℕ → List Word → Reading Number
numeral stop words = and_then (next stop words) (λ w ws. spelled w.at (number w.bytes) ws)

-- no word may be left over
abbrev pub nothing_left : {A : Type 0} → A → List Word → Result A Fault
nothing_left x [] = Ok x
nothing_left x (w ∷ ws) = fault LeftOver w.at
