-- What the plain records say.
use Rattle.std.specs.Prelude.{List, map}
use Rattle.lists.specs.Lists.{items_of}
use Rattle.problems.specs.declared.plain.TableRecord.{TableRecord}
use Rattle.problems.specs.Records.{Placed, placed_of}
use Rattle.buckets.specs.declared.plain.Records.{Records}

-- what a record says: its scope, the bucket that it came from, and the cell at which its table starts
abbrev pub tabled : TableRecord 18446744073709551615 → Placed
tabled r = placed_of r

-- the records in their order
abbrev pub listed : Records → List Placed
listed r = map tabled (items_of r.list)
