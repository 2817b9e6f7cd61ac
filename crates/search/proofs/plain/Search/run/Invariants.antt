use Rattle.std.proofs.Common.{◌≡◌, ◌-◌, true}
use Rattle.problems.specs.Outlines.{outline, problem}
use Rattle.floors.specs.Settings.{Formed}
use Rattle.search.specs.Searches.{steady, ran}
use Rattle.search.specs.Places.{spot_of, search_of}
use Rattle.search.proofs.Turns.{beyond}
use Rattle.search.proofs.plain.Search.run.Given as goal

-- the search stays steady, and what is still allowed from here leads on to the whole run
abbrev pub invariant-loop-visits : goal.invariant-loop-visits
invariant-loop-visits g l =
    (steady (outline l.shape).sizes (outline l.shape).order (spot_of l.shape.order l.initial.self.place) ≡ true
    → steady (outline l.shape).sizes (outline l.shape).order (spot_of l.shape.order l.self.place) ≡ true)
    × (g.S.FloorSource.rules.filled l.source (outline l.shape) l.area l.at → Formed (problem (outline l.shape) l.area)
    → steady (outline l.shape).sizes (outline l.shape).order (spot_of l.shape.order l.initial.self.place) ≡ true
    → ran g.C.Cost.structure (problem (outline l.shape) l.area) (g.S.FloorSource.rules.meaning l.source (problem (outline l.shape) l.area)) l.budget (search_of l.shape.order l.initial.self)
    ≡ beyond l.visits (ran g.C.Cost.structure (problem (outline l.shape) l.area) (g.S.FloorSource.rules.meaning l.source (problem (outline l.shape) l.area)) (l.budget - l.visits) (search_of l.shape.order l.self)))
