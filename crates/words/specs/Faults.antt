-- What is wrong with a text: the number of each flaw, and the refusal that a broken rule carries.
use Rattle.std.specs.Prelude.{ℕ, Some, None, Option}
use Rattle.variables.specs.Refusals.{number_of}
use Rattle.words.specs.declared.fault.Flaw.{Flaw}
use Rattle.words.specs.declared.fault.Flaw.TheVariants.{Job, TextLength, Ended, NoNumber, AboveMaximum, Rule, LeftOver}

-- the number by which a flaw is known: a job's refusal keeps its own
abbrev pub flaw_number : Flaw → ℕ
flaw_number (Job why) = number_of why
flaw_number TextLength = 15
flaw_number Ended = 16
flaw_number NoNumber = 17
flaw_number AboveMaximum = 18
flaw_number (Rule why) = 19
flaw_number LeftOver = 20

-- a broken rule carries the number of the job's refusal, and no other flaw does
abbrev pub flaw_carried : Flaw → Option ℕ
flaw_carried (Job why) = None
flaw_carried TextLength = None
flaw_carried Ended = None
flaw_carried NoNumber = None
flaw_carried AboveMaximum = None
flaw_carried (Rule why) = Some (number_of why)
flaw_carried LeftOver = None
