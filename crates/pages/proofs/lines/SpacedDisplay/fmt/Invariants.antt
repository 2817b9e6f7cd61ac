use Rattle.std.proofs.Common.{◌≡◌, List, ℕ, Some, drop}
use Rattle.std.specs.Fmt.{◌++?◌, HasWritten, IsPlainFormatter}
use Rattle.pages.specs.Lines.{spaced_text}
use Rattle.pages.proofs.lines.SpacedDisplay.fmt.Given as goal

-- what is written, and what the items still to come print, lead on to all of them
abbrev pub invariant-loop-k : goal.invariant-loop-k
invariant-loop-k g l =
    IsPlainFormatter l.initial.f → (whole : List ℕ) → spaced_text g.T.Display.output 0 l.self.0.now ≡ Some whole
    → (done : List ℕ) × HasWritten g.W.Write.write_str_gives l.initial.f done l.f × (Some done ++? spaced_text g.T.Display.output l.k (drop l.k l.self.0.now) ≡ Some whole)
