-- The layout of a whole text, as the reading of its words in order. `stop` is the text's length, where it ends.
use Rattle.std.specs.Prelude.{ℕ, zero, suc, ◌+◌, List, [], ◌∷◌, ◌++◌, length, Ok, Err, Result, slice_index}
use Rattle.variables.specs.Assignments.{cells}
use Rattle.words.specs.declared.fault.Fault.{Fault}
use Rattle.words.specs.Words.{Word}
use Rattle.words.specs.Readings.{Reading, and_then, next, nothing_left}
use Rattle.words.specs.Ruled.{any, number_by}
use Rattle.wcsp.specs.Rules.{variables_rule, size_rule, count_rule, arity_rule, variable_rule, room_rule, value_rule}

-- a tuple of values that has a cost of its own
pub record Listed : Type 0 where
  pub tuple : List ℕ
  pub cost : ℕ

-- a function: every tuple that is not listed has the usual cost
pub record Entry : Type 0 where
  pub scope : List ℕ
  pub usual : ℕ
  pub listed : List Listed

-- the numbers that a text begins with
pub record Heading : Type 0 where
  pub name : List ℕ
  pub variables : ℕ
  pub largest : ℕ
  pub functions : ℕ
  pub upper : ℕ

-- what a whole text says
pub record Document : Type 0 where
  pub name : List ℕ
  pub upper : ℕ
  pub sizes : List ℕ
  pub entries : List Entry

-- the name, the number of variables, the maximum domain size, the function count and the upper bound
abbrev pub heading : ℕ → List Word → Reading Heading
heading stop words =
    and_then (next stop words) (λ name ws₁.
    and_then (number_by stop variables_rule ws₁) (λ variables ws₂.
    and_then (number_by stop any ws₂) (λ largest ws₃.
    and_then (number_by stop count_rule ws₃) (λ functions ws₄.
    and_then (number_by stop any ws₄) (λ upper ws₅.
    Ok (record { name = name.bytes; variables = variables; largest = largest; functions = functions; upper = upper }, ws₅))))))

-- k more domain sizes
abbrev pub sizes_from : ℕ → ℕ → ℕ → List ℕ → List Word → Reading (List ℕ)
sizes_from stop max zero done words = Ok (done, words)
sizes_from stop max (suc k) done words =
    and_then (number_by stop (size_rule max) words) (λ size ws. sizes_from stop max k (done ++ size ∷ []) ws)

-- k more variables of a scope, each one of n
abbrev pub scope_from : ℕ → ℕ → ℕ → List ℕ → List Word → Reading (List ℕ)
scope_from stop n zero done words = Ok (done, words)
scope_from stop n (suc k) done words =
    and_then (number_by stop (variable_rule n done) words) (λ v ws. scope_from stop n k (done ++ v ∷ []) ws)

-- a scope: its arity, and so many variables
abbrev pub scoped : ℕ → ℕ → List Word → Reading (List ℕ)
scoped stop n words = and_then (number_by stop arity_rule words) (λ arity ws. scope_from stop n arity [] ws)

-- a value for each of the variables still to come
abbrev pub tuple_from : ℕ → List ℕ → List ℕ → List ℕ → List Word → Reading (List ℕ)
tuple_from stop sizes [] done words = Ok (done, words)
tuple_from stop sizes (v ∷ vs) done words =
    and_then (number_by stop (value_rule (slice_index sizes v)) words) (λ value ws. tuple_from stop sizes vs (done ++ value ∷ []) ws)

-- a tuple, and its cost
abbrev pub listing : ℕ → List ℕ → List ℕ → List Word → Reading Listed
listing stop sizes scope words =
    and_then (tuple_from stop sizes scope [] words) (λ tuple ws₁.
    and_then (number_by stop any ws₁) (λ cost ws₂.
    Ok (record { tuple = tuple; cost = cost }, ws₂)))

-- k more tuples, each with its cost
abbrev pub listed_from : ℕ → List ℕ → List ℕ → ℕ → List Listed → List Word → Reading (List Listed)
listed_from stop sizes scope zero done words = Ok (done, words)
listed_from stop sizes scope (suc k) done words =
    and_then (listing stop sizes scope words) (λ one ws. listed_from stop sizes scope k (done ++ one ∷ []) ws)

-- how many tuples are listed, and those
abbrev pub listings : ℕ → List ℕ → List ℕ → List Word → Reading (List Listed)
listings stop sizes scope words = and_then (number_by stop any words) (λ count ws. listed_from stop sizes scope count [] ws)

-- one function: its scope, the usual cost, and the tuples with costs of their own
abbrev pub entry : ℕ → ℕ → List ℕ → ℕ → List Word → Reading Entry
entry stop area sizes used words =
    and_then (scoped stop (length sizes) words) (λ scope ws₁.
    and_then (number_by stop (room_rule area used (cells sizes scope)) ws₁) (λ usual ws₂.
    and_then (listings stop sizes scope ws₂) (λ listed ws₃.
    Ok (record { scope = scope; usual = usual; listed = listed }, ws₃))))

-- k more functions; each takes the cells of its table
abbrev pub entries_from : ℕ → ℕ → List ℕ → ℕ → ℕ → List Entry → List Word → Reading (List Entry)
entries_from stop area sizes zero used done words = Ok (done, words)
entries_from stop area sizes (suc k) used done words =
    and_then (entry stop area sizes used words) (λ e ws.
    entries_from stop area sizes k (used + cells sizes e.scope) (done ++ e ∷ []) ws)

-- what is read has to be all
abbrev pub all_of : {A : Type 0} → Reading A → Result A Fault
all_of (Ok p) = nothing_left p.0 p.1
all_of (Err e) = Err e

-- the heading, the domain sizes and the functions; two cells of the area are used before the first function
abbrev pub document : ℕ → ℕ → List Word → Result Document Fault
document stop area words =
    all_of (and_then (heading stop words) (λ h ws₁.
    and_then (sizes_from stop h.largest h.variables [] ws₁) (λ sizes ws₂.
    and_then (entries_from stop area sizes h.functions 2 [] ws₂) (λ entries ws₃.
    Ok (record { name = h.name; upper = h.upper; sizes = sizes; entries = entries }, ws₃)))))
