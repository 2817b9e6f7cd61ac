use Rattle.std.proofs.Common.{◌≡◌, ℕ, ◌<◌, length, get_or, take}
use Rattle.variables.specs.Assignments.{of}
use Rattle.variables.specs.Records.{sizes_of}
use Rattle.variables.proofs.plain.Setting.full.Given as goal

-- the values so far are in their slots, each of its domain
abbrev pub invariant-loop-v : goal.invariant-loop-v
invariant-loop-v l =
    (length l.slots ≡ 32) ×
    (length l.values ≡ length (sizes_of l.sizes)) ×
    ((v : ℕ) → v < l.v → get_or l.values v 0 < get_or (sizes_of l.sizes) v 0) ×
    ((v : ℕ) → of l.slots v ≡ of (take l.v l.values) v)
