-- What processing one bucket takes and gives.
use Rattle.std.specs.Prelude.{◌≡◌, ℕ, ◌+◌, ◌<◌, ◌≤◌, true, List, ◌++◌, map, length, take, drop}
use Rattle.costs.specs.Structures.{Structure}
use Rattle.variables.specs.Lists.{has}
use Rattle.problems.specs.Records.{Placed, function_in}
use Rattle.variables.specs.Rules.{is_order}
use Rattle.floors.specs.ByNumber.{bucket_messages}
use Rattle.buckets.specs.Joining.{names}
use Rattle.buckets.specs.Made.{scopes_from, all_cells, laid_out}
use Rattle.buckets.specs.Tables.{Below}

abbrev pub scopes_of : List Placed → List (List ℕ)
scopes_of fs = map (λ (f : Placed). f.scope) fs

-- bucket p + 1 of an order can be processed: its messages are narrow, and there is a slot for each
pub record Ready (sizes order : List ℕ) (w p : ℕ) (fs : List Placed) : Type 0 where
  pub ordered : is_order (length sizes) order ≡ true
  pub narrow : w ≤ 6
  pub number : p < length order
  pub slots : length fs + length (scopes_from order w (p + 1) (scopes_of fs)) ≤ 384

-- and there are cells for the tables
pub record Roomy (sizes order : List ℕ) (w p : ℕ) (fs : List Placed) (end cells : ℕ) : Type 0 where
  pub inside : (u : ℕ) → names fs u ≡ true → has order u ≡ true
  pub below : Below sizes end fs
  pub room : end + all_cells sizes (scopes_from order w (p + 1) (scopes_of fs)) ≤ cells

-- the messages of bucket p + 1 are filed behind the other records, and their tables written from `end` on, and nothing else
pub record Processed {C : Type 0} (K : Structure C) (sizes order : List ℕ) (w p : ℕ) (fs fs' : List Placed) (area area' : List C) (end end' : ℕ) : Type 0 where
  pub records : fs' ≡ fs ++ laid_out sizes (p + 1) end (scopes_from order w (p + 1) (scopes_of fs))
  pub ends : end' ≡ end + all_cells sizes (scopes_from order w (p + 1) (scopes_of fs))
  pub tables : map (function_in sizes area') (laid_out sizes (p + 1) end (scopes_from order w (p + 1) (scopes_of fs))) ≡ bucket_messages K sizes order w (p + 1) (map (function_in sizes area) fs)
  pub long : length area' ≡ length area
  pub before : take end area' ≡ take end area
  pub behind : drop end' area' ≡ drop end' area
