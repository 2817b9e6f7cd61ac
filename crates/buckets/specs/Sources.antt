-- The mini-bucket source: which jobs it suits, its room, what it means, and when its cells and records are in order.
use Rattle.std.specs.Prelude.{◌≡◌, ℕ, ◌+◌, ◌-◌, ◌<◌, ◌≤◌, Bool, true, cond, ◌&&◌, List, [], ◌∷◌, ◌++◌, map, length, drop, nat_le, slice_index}
use Rattle.costs.specs.Structures.{Structure}
use Rattle.problems.specs.Records.{Placed, nth, function_in}
use Rattle.problems.specs.Outlines.{Outline, problem}
use Rattle.floors.specs.MiniBuckets.{mini_bucket_floor}
use Rattle.floors.specs.Rules.{Frame, frame, Rules}
use Rattle.floors.specs.Sources.{bucket_in}
use Rattle.buckets.specs.declared.plain.MiniBucket.{MiniBucket}
use Rattle.buckets.specs.Listed.{listed}
use Rattle.buckets.specs.Made.{bucket_made, scopes_made, all_cells, placed_made}
use Rattle.buckets.specs.Processed.{scopes_of}

-- no scope is longer than the width
abbrev pub short : ℕ → List (List ℕ) → Bool
short w [] = true
short w (s ∷ ss) = nat_le (length s) w && short w ss

-- the width is 1 to 6, and no scope is longer
abbrev pub mini_suits : ℕ → Frame → Bool
mini_suits w f = (nat_le 1 w && nat_le w 6) && short w f.scopes

-- the cells of all messages of a job that it suits
abbrev pub mini_room : ℕ → Frame → ℕ
mini_room w f = cond (mini_suits w f) (all_cells f.sizes (scopes_made f.order w f.scopes (length f.order))) 0

-- the records of all messages, behind one another from `at` on
abbrev pub all_placed : ℕ → Outline → ℕ → List Placed
all_placed w o at = placed_made o.sizes o.order w (scopes_of o.functions) at (length o.order)

-- the messages that are kept
abbrev pub messages : MiniBucket → List Placed
messages s = drop s.entered (listed s.made.records)

-- The job suits, and the records kept are its functions and then its messages: each message's scope, the bucket that it came from and its place, and every cell of its table.
-- Noted are how many records a prefix of each length reaches, those of the functions and of the messages from later buckets, and the bucket of each.
pub record Kept {C : Type 0} (K : Structure C) (s : MiniBucket) (o : Outline) (area : List C) (at : ℕ) : Type 0 where
  pub suited : mini_suits s.width (frame o) ≡ true
  pub entered : s.entered ≡ length o.functions
  pub records : listed s.made.records ≡ o.functions ++ all_placed s.width o at
  pub tables : map (function_in o.sizes area) (all_placed s.width o at) ≡ bucket_made K o.sizes o.order s.width (problem o area).functions (length o.order)
  pub reach : (p : ℕ) → p ≤ length o.order → slice_index s.made.reach p ≡ length o.functions + length (scopes_made o.order s.width (scopes_of o.functions) (length o.order - p))
  pub buckets : (k : ℕ) → k < length (listed s.made.records) → slice_index s.buckets.places k ≡ bucket_in o.order (nth (listed s.made.records) k)

abbrev pub mini_bucket_rules : {C : Type 0} → Structure C → Rules C MiniBucket
mini_bucket_rules K = record {
  suits = λ s f. mini_suits s.width f;
  room = λ s f. mini_room s.width f;
  meaning = λ s p x. mini_bucket_floor K s.width p x;
  filled = λ s o area at. Kept K s o area at;
}
