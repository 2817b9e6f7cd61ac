use Rattle.buckets.specs.Listed.{listed, tabled}
use Rattle.buckets.proofs.Listing.{mapped_rest}
use Rattle.buckets.proofs.plain.MiniBucket.messages.Goals as goal

pub returns : goal.returns
returns c = mapped_rest tabled c.as_slice-records.result.now (listed c.args.self.now.made.records) c.as_slice-records.ensures.records c.args.self.now.entered c.min-entered.result c.min-entered.ensures
