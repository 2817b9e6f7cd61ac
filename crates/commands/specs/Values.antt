-- The words of a command line that are values.
use Rattle.std.specs.Prelude.{◌≡◌, ℕ, ◌<◌, ◌≤◌, List, Some, None, Ok, Err, Option, Result}
use Rattle.words.specs.Numbers.{number}
use Rattle.commands.specs.declared.stop.Stop.{Stop}
use Rattle.commands.specs.declared.stop.Stop.TheVariants.{Said, Memory}

-- the number of the word, if it is below 256
abbrev pub ValueOf : List ℕ → Result ℕ Stop → Type 0
ValueOf word (Ok v) = (number word ≡ Some v) × (v < 256)
ValueOf word (Err (Said line)) = (v : ℕ) → number word ≡ Some v → v < 256 → ⊥
ValueOf word (Err Memory) = Unit {0}

-- the number of the word, if it is from `least` to `most`
abbrev pub Ranged : List ℕ → ℕ → ℕ → Option ℕ → Type 0
Ranged word least most (Some n) = (number word ≡ Some n) × (least ≤ n) × (n ≤ most)
Ranged word least most None = (n : ℕ) → number word ≡ Some n → least ≤ n → n ≤ most → ⊥
