-- What the record of a prepared job keeps to, and that its problem is formed.
use Rattle.std.proofs.Common.{◌≡◌, ℕ, ◌<◌, ◌≤◌, Bool, true, false, List, length, sym, refl, arith}
use Rattle.variables.specs.Rules.{is_order}
use Rattle.problems.specs.Outlines.{Outline, outline, problem}
use Rattle.floors.specs.Settings.{Formed}
use Rattle.search.specs.Searches.{Spot, ended}
use Rattle.search.specs.Places.{spot_of}
use Rattle.jobs.specs.declared.stage.Stage.{Stage}
use Rattle.jobs.specs.declared.stage.Stage.TheVariants.{Closed, Draft, Running, Ended}
use Rattle.jobs.specs.declared.job.Plain.{Plain}
use Rattle.jobs.specs.Stages.{is_closed, is_ended}
use Rattle.jobs.specs.Invariants.{sound}
use Rattle.jobs.specs.Standings.{Standing, standing_of}
use Rattle.jobs.proofs.Sounds as sounds
use Rattle.jobs.proofs.Forms as forms

-- a job that was prepared
abbrev pub prepared : Stage → Bool
prepared Closed = false
prepared Draft = false
prepared Running = true
prepared Ended = true

pub not_closed : (stage : Stage) → prepared stage ≡ true → is_closed stage ≡ false
not_closed Closed h = sym h
not_closed Draft h = refl
not_closed Running h = refl
not_closed Ended h = refl

pub record Kept (s : Standing) : Type 0 where
  pub some : 0 < length s.outline.sizes
  pub inside : s.outline.used ≤ s.noted
  pub ordered : is_order (length s.outline.sizes) s.outline.order ≡ true
  pub ended_is : is_ended s.stage ≡ ended s.outline.sizes s.outline.order s.spot

kept_so : (stage : Stage) (o : Outline) (noted : ℕ) (s : Spot) (visits : ℕ) → prepared stage ≡ true → sound stage o noted s ≡ true
    → Kept (record { stage = stage; outline = o; noted = noted; spot = s; visits = visits })
kept_so Closed o noted s visits h k = absurd (grind (arith, h))
kept_so Draft o noted s visits h k = absurd (grind (arith, h))
kept_so Running o noted s visits h k = record {
  some = sounds.some_variable Running o noted s refl k;
  inside = sounds.tables_inside Running o noted s refl k;
  ordered = sounds.has_order Running o noted s refl k refl;
  ended_is = sym (sounds.goes_on Running o noted s refl k refl refl);
}
kept_so Ended o noted s visits h k = record {
  some = sounds.some_variable Ended o noted s refl k;
  inside = sounds.tables_inside Ended o noted s refl k;
  ordered = sounds.has_order Ended o noted s refl k refl;
  ended_is = sym (sounds.has_ended Ended o noted s refl k refl refl);
}

pub kept_by : (p : Plain) → prepared p.stage ≡ true → Kept (standing_of p)
kept_by p h = kept_so p.stage (outline p.shape) p.noted (spot_of p.shape.order p.place) p.visits h p.sound

pub formed : {C : Type 0} (p : Plain) (area : List C) → prepared p.stage ≡ true → length area ≡ p.noted → Formed (problem (outline p.shape) area)
formed p area h long = let kept = kept_by p h in forms.formed p.shape area kept.ordered (omega (arith, kept.inside))

-- the tables begin behind the limit's cell and the best cost's
pub tables_after : (p : Plain) → 2 ≤ (outline p.shape).used
tables_after p = forms.before_tables p.shape
