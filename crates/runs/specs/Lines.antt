-- The lines of answers, byte by byte.
use Rattle.std.specs.Prelude.{ℕ, List, ◌++◌, codes, decimal}

-- NAME: STATE
abbrev pub done_line : List ℕ → List ℕ → List ℕ
done_line name state = name ++ (codes ": " ++ (state ++ codes "\n"))

-- NAME: refused NUMBER
abbrev pub refused_answer : List ℕ → ℕ → List ℕ
refused_answer name number = name ++ (codes ": refused " ++ (decimal number ++ codes "\n"))

-- enter: function K
abbrev pub entered_line : ℕ → List ℕ
entered_line k = codes "enter: function " ++ (decimal k ++ codes "\n")

-- step: V visits, running   or   step: V visits, ended
abbrev pub stepped_line : ℕ → List ℕ → List ℕ
stepped_line visits state = codes "step: " ++ (decimal visits ++ (codes " visits, " ++ (state ++ codes "\n")))
