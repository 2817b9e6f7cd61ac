-- What is always true of a job's own record.
use Rattle.std.specs.Prelude.{ℕ, Bool, cond, not, ◌&&◌, ◌||◌, length, nat_le}
use Rattle.variables.specs.Rules.{is_order}
use Rattle.problems.specs.Outlines.{Outline}
use Rattle.search.specs.Searches.{Spot, ended, steady}
use Rattle.jobs.specs.declared.stage.Stage.{Stage}
use Rattle.jobs.specs.Stages.{is_closed, is_draft, is_ended}

-- the order is one of the variables, and the search is steady, and has ended exactly if the stage says so
abbrev pub under_way : Stage → Outline → Spot → Bool
under_way stage o s =
    is_order (length o.sizes) o.order && (steady o.sizes o.order s && cond (is_ended stage) (ended o.sizes o.order s) (not (ended o.sizes o.order s)))

-- unless it is closed, there is a variable and the tables lie in the area; once prepared, the search is under way
abbrev pub sound : Stage → Outline → ℕ → Spot → Bool
sound stage o noted s = is_closed stage || (nat_le 1 (length o.sizes) && (nat_le o.used noted && (is_draft stage || under_way stage o s)))
