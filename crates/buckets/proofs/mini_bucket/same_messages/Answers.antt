use Rattle.floors.specs.Shapes.{shaped}
use Rattle.buckets.proofs.Made.{made_same}
use Rattle.buckets.proofs.mini_bucket.same_messages.Goals as goal

pub returns : goal.returns
returns g c = λ K L p formed w. made_same L p (shaped p formed) w
