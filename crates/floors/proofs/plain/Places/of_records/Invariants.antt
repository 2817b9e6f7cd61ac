use Rattle.std.proofs.Common.{◌≡◌, ℕ, ◌<◌, map, length, get_or}
use Rattle.variables.specs.Records.{order_of}
use Rattle.problems.specs.Records.{nth, placed_of}
use Rattle.floors.specs.Sources.{bucket_in}
use Rattle.floors.proofs.plain.Places.of_records.Given as goal

-- the buckets so far are noted
abbrev pub invariant-loop-k : goal.invariant-loop-k
invariant-loop-k g l =
    (length l.places ≡ g.row.N) ×
    ((j : ℕ) → j < g.row.N → j < l.k → get_or l.places j 0 ≡ bucket_in (order_of l.order) (nth (map (placed_of {END = g.row.END}) l.records) j))
