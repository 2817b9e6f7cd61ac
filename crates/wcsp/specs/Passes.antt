-- A text is read twice: first to check it, then to write its tables.
use Rattle.wcsp.specs.declared.tables.Pass.{Pass}
use Rattle.wcsp.specs.declared.tables.Pass.TheVariants.{Checking, Writing}

-- what stands after a pass: the old while checking, and the new once written
abbrev pub by_pass : {A : Type 0} → Pass → A → A → A
by_pass Checking old new = old
by_pass Writing old new = new
