-- Why a call is refused: the number of each reason, and the first row of a table that applies.
use Rattle.std.specs.Prelude.{◌≡◌, ℕ, Bool, cond, List, [], ◌∷◌, Some, None, Ok, Err, Option, Result}
use Rattle.variables.specs.declared.refusal.Refusal.{Refusal}
use Rattle.variables.specs.declared.refusal.Refusal.TheVariants.{Variables, Size, Area, Stage, AreaLength, Scope, Functions, Room, Function, Tuple, Order, Source, Budget, Buffer}

-- the number by which a refusal is known
abbrev pub number_of : Refusal → ℕ
number_of Variables = 1
number_of Size = 2
number_of Area = 3
number_of Stage = 4
number_of AreaLength = 5
number_of Scope = 6
number_of Functions = 7
number_of Room = 8
number_of Function = 9
number_of Tuple = 10
number_of Order = 11
number_of Source = 12
number_of Budget = 13
number_of Buffer = 14

-- a condition, and the refusal that it gives
pub record Row : Type 0 where
  pub when : Bool
  pub refusal : Refusal

-- rows are tried in turn, and the first that holds gives the refusal
abbrev pub first_of : List Row → Option Refusal
first_of [] = None
first_of (row ∷ rows) = cond row.when (Some row.refusal) (first_of rows)

-- a call is accepted exactly if no row holds; refused, it leaves what `Left` says
abbrev pub Answers : {A : Type 0} → Option Refusal → Result A Refusal → (A → Type 0) → Type 0 → Type 0
Answers why (Ok x) Accepted Left = (why ≡ None) × Accepted x
Answers why (Err e) Accepted Left = (why ≡ Some e) × Left
