-- The sources that are built.
use Rattle.std.specs.Prelude.{◌≡◌, ℕ, ◌+◌, ◌<◌, true, cond, List, [], ◌∷◌, length, Some, None, Option, nat_le, slice_index}
use Rattle.costs.specs.Structures.{Structure}
use Rattle.problems.specs.Records.{Placed, nth, held}
use Rattle.variables.specs.Assignments.{Assignment}
use Rattle.problems.specs.Outlines.{Outline}
use Rattle.floors.specs.declared.plain.Paid.{Paid}
use Rattle.floors.specs.declared.plain.Places.{Places}
use Rattle.floors.specs.declared.plain.Given.{Given}
use Rattle.floors.specs.declared.plain.FirstChoice.{FirstChoice}
use Rattle.floors.specs.Settings.{kept, upto}
use Rattle.floors.specs.ByNumber.{place_from, bucket_of}
use Rattle.floors.specs.Floors.{cheapest, paid_floor, first_choice_floor}
use Rattle.floors.specs.Rules.{Rules}

-- the bucket of a function that may not be there
abbrev pub bucket_in : List ℕ → Option Placed → ℕ
bucket_in order None = 0
bucket_in order (Some f) = bucket_of order f.scope

-- each function's bucket is noted
abbrev pub Noted : {N : ℕ} → Places N → Outline → Type 0
Noted b o = (k : ℕ) → k < length o.functions → slice_index b.places k ≡ bucket_in o.order (nth o.functions k)

-- the records whose place, noted under their number from k on, is at most p
abbrev pub picked : List ℕ → ℕ → ℕ → List Placed → List Placed
picked ps p k [] = []
picked ps p k (f ∷ fs) = cond (nat_le (slice_index ps k) p) (f ∷ picked ps p (k + 1) fs) (picked ps p (k + 1) fs)

-- Paid suits every job, and has no cells
abbrev pub paid_rules : {C : Type 0} → Structure C → Rules C Paid
paid_rules K = record {
  suits = λ s f. true;
  room = λ s f. 0;
  meaning = λ s p x. paid_floor K p x;
  filled = λ s o area at. Noted s.buckets o;
}

-- each variable's place is noted
abbrev pub PlacesNoted : {N : ℕ} → Places N → Outline → Type 0
PlacesNoted n o = (v : ℕ) → v < 32 → slice_index n.places v ≡ place_from 1 o.order v

-- the variables that are given, going by the places noted
abbrev pub given_of : Given → List ℕ
given_of g = kept (λ v. nat_le (slice_index g.places.places v) g.len) (upto 0 (length g.places.places))

-- what may be there, as a list
abbrev pub listed : {A : Type 0} → Option A → List A
listed None = []
listed (Some x) = x ∷ []

-- the least cost of a record over its variables that are not given
abbrev pub least_held : {C : Type 0} → Structure C → List ℕ → List C → List ℕ → Assignment → Placed → C
least_held K sizes area given a f = cheapest K sizes given f.scope (λ b. held K sizes area b f) a

-- the same of a record that may not be there
abbrev pub least_held_by : {C : Type 0} → Structure C → List ℕ → List C → List ℕ → Assignment → Option Placed → C
least_held_by K sizes area given a None = K.neutral
least_held_by K sizes area given a (Some f) = least_held K sizes area given a f

-- First choice suits every job, and has no cells
abbrev pub first_choice_rules : {C : Type 0} → Structure C → Rules C FirstChoice
first_choice_rules K = record {
  suits = λ s f. true;
  room = λ s f. 0;
  meaning = λ s p x. first_choice_floor K p x;
  filled = λ s o area at. PlacesNoted s.places o;
}
