-- The messages' lines, as they are read off the records that a source keeps.
use Rattle.std.specs.Prelude.{ℕ, ◌+◌, List, [], ◌∷◌, ◌++◌, take, drop, Some, None, Option}
use Rattle.problems.specs.Records.{Placed}
use Rattle.variables.specs.Assignments.{cells}
use Rattle.pages.specs.Lines.{message_line}

-- the line of message k, if there is one: its scope, the bucket that it came from, and its cells
abbrev pub kept_line : List ℕ → List ℕ → ℕ → Option Placed → List ℕ
kept_line sizes area k None = []
kept_line sizes area k (Some f) = message_line k f.scope f.origin (take (cells sizes f.scope) (drop f.start area))

-- a line for each message, from number k on
abbrev pub kept_lines : List ℕ → List ℕ → ℕ → List Placed → List ℕ
kept_lines sizes area k [] = []
kept_lines sizes area k (f ∷ fs) = kept_line sizes area k (Some f) ++ kept_lines sizes area (k + 1) fs
