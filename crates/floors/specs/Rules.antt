-- What a source of floors means, and what every source promises.
use Rattle.std.specs.Prelude.{◌≡◌, ℕ, ◌+◌, ◌<◌, ◌≤◌, Bool, true, List, map, length, take, drop, slice_index_or}
use Rattle.costs.specs.Structures.{Structure}
use Rattle.variables.specs.Assignments.{Full}
use Rattle.problems.specs.Problems.{Problem, cost}
use Rattle.problems.specs.Records.{Placed}
use Rattle.problems.specs.Outlines.{Outline, problem}
use Rattle.floors.specs.Settings.{Formed, Fits, Begins}
use Rattle.floors.specs.Floors.{Admissible}

-- what a source may go by before its cells are filled: domain sizes, scopes and the order
pub record Frame : Type 0 where
  pub sizes : List ℕ
  pub scopes : List (List ℕ)
  pub order : List ℕ

abbrev pub frame : Outline → Frame
frame o = record { sizes = o.sizes; scopes = map (λ (f : Placed). f.scope) o.functions; order = o.order }

-- whether it takes a job, how many cells it then needs, what its floor of a prefix is, and when its cells and its own notes are in order
pub record Rules (C S : Type 0) : Type 1 where
  pub suits : S → Frame → Bool
  pub room : S → Frame → ℕ
  pub meaning : S → Problem C → List ℕ → C
  pub filled : S → Outline → List C → ℕ → Type 0

-- what every source owes
pub record Sound {C S : Type 0} (K : Structure C) (R : Rules C S) : Type 0 where
  -- a floor is at most the cost of every full setting that begins with the prefix
  pub admissible : (s : S) (o : Outline) (area : List C) → Formed (problem o area) → R.suits s (frame o) ≡ true → Admissible K (problem o area) (R.meaning s (problem o area))
  -- what was filled stands while the tables and the source's own cells stand
  pub stays : (s : S) (o : Outline) (area area' : List C) (at : ℕ) → length area' ≡ length area → problem o area' ≡ problem o area
      → ((k : ℕ) (d : C) → at ≤ k → k < at + R.room s (frame o) → slice_index_or area' k d ≡ slice_index_or area k d) → R.filled s o area at → R.filled s o area' at

module _ {C S : Type 0} (R : Rules C S) where
  -- the source has written its cells from `at` on, and no other; what it means is what it was
  pub record Fills (o : Outline) (s s' : S) (area area' : List C) (at : ℕ) : Type 0 where
    pub long : length area' ≡ length area
    pub before : take at area' ≡ take at area
    pub behind : drop (at + R.room s (frame o)) area' ≡ drop (at + R.room s (frame o)) area
    pub filled : R.filled s' o area' at
    pub same_suits : (f : Frame) → R.suits s' f ≡ R.suits s f
    pub same_room : (f : Frame) → R.room s' f ≡ R.room s f
    pub same_meaning : (p : Problem C) (x : List ℕ) → R.meaning s' p x ≡ R.meaning s p x

  -- while tables and filled cells stand, the floor of a prefix of usable values is what the source means
  abbrev pub Told : Outline → S → List C → ℕ → List ℕ → C → Type 0
  Told o s area at x r =
      R.filled s o area at → Formed (problem o area) → Fits (problem o area) x → r ≡ R.meaning s (problem o area) x

  -- and no full setting that begins with the prefix is cheaper
  abbrev pub Low : Structure C → Outline → S → List C → ℕ → List ℕ → C → Type 0
  Low K o s area at x r =
      R.filled s o area at → R.suits s (frame o) ≡ true → Formed (problem o area) → Fits (problem o area) x → (t : List ℕ) → Full o.sizes t → Begins (problem o area) x t
      → K.at_most r (cost K (problem o area) t) ≡ true
