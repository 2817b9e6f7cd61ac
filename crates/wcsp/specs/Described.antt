-- What a text describes: a job's outline, and the problem with its tables.
use Rattle.std.specs.Prelude.{ℕ, List, [], ◌∷◌, ◌++◌, map}
use Rattle.problems.specs.Outlines.{Outline, opened, entered}
use Rattle.problems.specs.Problems.{Function, Problem}
use Rattle.wcsp.specs.Layouts.{Entry, Document}
use Rattle.wcsp.specs.Tables.{table_of}

-- each scope is entered in turn
abbrev pub entered_all : Outline → List Entry → Outline
entered_all o [] = o
entered_all o (e ∷ es) = entered_all (entered o e.scope) es

-- the outline of the whole job, which has no order yet
abbrev pub outlined : Document → Outline
outlined d = entered_all (opened d.sizes) d.entries

-- the tables, one behind the other
abbrev pub tables : List ℕ → List Entry → List ℕ
tables sizes [] = []
tables sizes (e ∷ es) = table_of sizes e ++ tables sizes es

abbrev pub function_of : List ℕ → Entry → Function ℕ
function_of sizes e = record { scope = e.scope; table = table_of sizes e }

-- the problem
abbrev pub described : Document → Problem ℕ
described d = record { sizes = d.sizes; functions = map (function_of d.sizes) d.entries; order = [] }
