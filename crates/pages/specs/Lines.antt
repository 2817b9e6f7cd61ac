-- The lines that are printed, byte by byte.
use Rattle.std.specs.Prelude.{ℕ, ◌+◌, cond, List, [], ◌∷◌, ◌++◌, Some, None, codes, decimal, Option, nat_lt}
use Rattle.std.specs.Fmt.{◌++?◌}
use Rattle.words.specs.declared.fault.Fault.{Fault}
use Rattle.words.specs.Faults.{flaw_number, flaw_carried}
use Rattle.costs.specs.Structures.{cheaper}
use Rattle.costs.specs.Kinds.{sum}

-- the k-th number of a list, with a blank before it if it is not the first
abbrev pub parted : ℕ → ℕ → List ℕ
parted k n = cond (nat_lt 0 k) (codes " " ++ decimal n) (decimal n)

-- numbers with a blank between two, k of them before these
abbrev pub spaced : ℕ → List ℕ → List ℕ
spaced k [] = []
spaced k (n ∷ ns) = parted k n ++ spaced (k + 1) ns

-- what items print with a blank between two, k of them before these; none, if of one of them nothing is said
abbrev pub spaced_text : {T : Type 0} → (T → Option (List ℕ)) → ℕ → List T → Option (List ℕ)
spaced_text text k [] = Some []
spaced_text text k (x ∷ xs) = Some (cond (nat_lt 0 k) (codes " ") []) ++? text x ++? spaced_text text (k + 1) xs

-- job NAME: N variables, M functions, U of A cells
abbrev pub job_line : List ℕ → ℕ → ℕ → ℕ → ℕ → List ℕ
job_line name variables functions used cells =
    codes "job " ++ (name ++ (codes ": " ++ (decimal variables ++ (codes " variables, " ++ (decimal functions ++ (codes " functions, " ++ (decimal used ++ (codes " of " ++ (decimal cells ++ codes " cells\n")))))))))

-- order: V V V
abbrev pub order_line : List ℕ → List ℕ
order_line order = codes "order: " ++ (spaced 0 order ++ codes "\n")

-- source: mini-bucket W, R cells
abbrev pub bucket_line : ℕ → ℕ → List ℕ
bucket_line width cells = codes "source: mini-bucket " ++ (decimal width ++ (codes ", " ++ (decimal cells ++ codes " cells\n")))

-- message K (V V V) from bucket P: C C C C
abbrev pub message_line : ℕ → List ℕ → ℕ → List ℕ → List ℕ
message_line k scope bucket cells =
    (codes "message " ++ (decimal k ++ codes " (")) ++ (spaced 0 scope ++ ((codes ") from bucket " ++ (decimal bucket ++ codes ": ")) ++ (spaced 0 cells ++ codes "\n")))

-- bottom: B
abbrev pub bottom_line : ℕ → List ℕ
bottom_line bottom = codes "bottom: " ++ (decimal bottom ++ codes "\n")

-- function K (V V V): C
abbrev pub function_line : ℕ → List ℕ → ℕ → List ℕ
function_line k scope cost = (codes "function " ++ (decimal k ++ codes " (")) ++ (spaced 0 scope ++ (codes "): " ++ (decimal cost ++ codes "\n")))

-- cost: C, below the upper bound U   or   cost: C, not below the upper bound U
abbrev pub verdict_line : ℕ → ℕ → List ℕ
verdict_line cost upper =
    codes "cost: " ++ (decimal cost ++ (codes ", " ++ (cond (cheaper sum cost upper) (codes "below") (codes "not below") ++ (codes " the upper bound " ++ (decimal upper ++ codes "\n")))))

-- the number of a job's own refusal, where one is carried, and the place
abbrev pub place_part : Option ℕ → ℕ → List ℕ
place_part None at = codes " at byte " ++ decimal at
place_part (Some n) at = codes " (" ++ (decimal n ++ (codes ") at byte " ++ decimal at))

-- JOB: refused NUMBER at byte OFFSET
abbrev pub refused_line : List ℕ → Fault → List ℕ
refused_line job f = job ++ (codes ": refused " ++ (decimal (flaw_number f.flaw) ++ place_part (flaw_carried f.flaw) f.at))
