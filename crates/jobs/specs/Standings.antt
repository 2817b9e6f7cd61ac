-- Where a job stands.
use Rattle.std.specs.Prelude.{◌≡◌, ℕ, ◌+◌, min, cond, []}
use Rattle.problems.specs.Outlines.{Outline, outline, opened}
use Rattle.search.specs.Searches.{Spot, start, ended}
use Rattle.search.specs.Places.{spot_of}
use Rattle.jobs.specs.declared.stage.Stage.{Stage}
use Rattle.jobs.specs.declared.stage.Stage.TheVariants.{Closed, Draft, Running, Ended}
use Rattle.jobs.specs.declared.job.Plain.{Plain}
use Rattle.jobs.specs.declared.job.Job.{Job}

-- the stage, what the job is apart from its cells, the area's length that was noted, where the search is, and the visits made since prepare
pub record Standing : Type 0 where
  pub stage : Stage
  pub outline : Outline
  pub noted : ℕ
  pub spot : Spot
  pub visits : ℕ

abbrev pub standing_of : Plain → Standing
standing_of p = record { stage = p.stage; outline = outline p.shape; noted = p.noted; spot = spot_of p.shape.order p.place; visits = p.visits }

abbrev pub standing : {C S : Type 0} → Job C S → Standing
standing j = standing_of j.plain

-- a search that has not begun
abbrev pub fresh : Stage → Outline → ℕ → Standing
fresh stage o noted = record { stage = stage; outline = o; noted = noted; spot = start; visits = 0 }

-- a draft, whose search has not begun
abbrev pub draft : Outline → ℕ → Standing
draft o noted = record { stage = Draft; outline = o; noted = noted; spot = start; visits = 0 }

-- no variables, no functions, no area
abbrev pub closed : Standing
closed = record { stage = Closed; outline = opened []; noted = 0; spot = start; visits = 0 }

-- visits are shown up to 4,294,967,295
abbrev pub most_shown : ℕ
most_shown = 4294967295

-- a search that is at a spot runs until it has ended there
abbrev pub stage_at : Outline → Spot → Stage
stage_at o s = cond (ended o.sizes o.order s) Ended Running

-- so many visits more, which led to another spot
abbrev pub moved : Standing → Spot → ℕ → Standing
moved j s visits = record { stage = stage_at j.outline s; outline = j.outline; noted = j.noted; spot = s; visits = min (j.visits + visits) most_shown }

-- the job stands there, with the source that it had
pub record Stands {C S : Type 0} (j : Job C S) (there : Standing) (source : S) : Type 0 where
  pub standing_is : standing j ≡ there
  pub source_is : j.source ≡ source
