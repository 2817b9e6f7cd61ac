-- Mini-bucket keeps what is asked of a source of floors.
use Rattle.std.proofs.Common.{length, sym, ap, ◌∙◌}
use Rattle.costs.specs.Structures.{Structure, Lawful}
use Rattle.problems.specs.Problems.{Problem}
use Rattle.problems.specs.Outlines.{problem}
use Rattle.floors.specs.MiniBuckets.{mini_bucket_floor}
use Rattle.floors.specs.Rules.{Sound}
use Rattle.floors.specs.Shapes.{shaped}
use Rattle.floors.specs.Climbs.{admissible}
use Rattle.floors.specs.Admissions.{mini_bucket_climbs}
use Rattle.buckets.specs.Made.{bucket_made}
use Rattle.buckets.specs.Sources.{mini_bucket_rules}
use Rattle.buckets.specs.Staying.{tables_stay}

pub mini_bucket_sound : {C : Type 0} (K : Structure C) → Lawful K → Sound K (mini_bucket_rules K)
mini_bucket_sound {C} K L = record {
  admissible = λ s o area formed suits. let p = problem o area in admissible L p (shaped p formed) (mini_bucket_floor K s.width p) (mini_bucket_climbs L p (shaped p formed) s.width);
  stays = λ s o area area' at long same cells kept. record {
    suited = kept.suited;
    entered = kept.entered;
    records = kept.records;
    tables = tables_stay K s o area area' at long cells kept ∙ kept.tables ∙ ap (λ (p : Problem C). bucket_made K o.sizes o.order s.width p.functions (length o.order)) (sym same);
    reach = kept.reach;
    buckets = kept.buckets;
  };
}
