use Rattle.std.proofs.Common.{length, ap, arith}
use Rattle.problems.specs.Outlines.{Outline, outline}
use Rattle.search.specs.Searches.{start}
use Rattle.jobs.proofs.Sounds.{draft_sound}
use Rattle.jobs.proofs.Texts.{loaded_some, loaded_few}
use Rattle.jobs.proofs.load.Job+u32+S.load.Goals as goal

pub fresh-self-requires : goal.fresh-self-requires
fresh-self-requires g c =
    let read = c.in_ok-loaded.ensures in
    let loads = read.2 in
    let some = loaded_some c.args.text.now (length c.args.area.now) read.0 read.1 in
    let few = loaded_few c.args.text.now (length c.args.area.now) read.0 read.1 in
    record {
      kept = draft_sound (outline c.in_ok-loaded.loaded.shape) (length c.load.new.area) start (omega (arith, some, ap (λ (o : Outline). length o.sizes) loads.shape)) (omega (arith, loads.inside, loads.long));
      few = omega (arith, few, loads.long);
    }
