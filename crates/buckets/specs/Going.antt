-- What making all messages takes and gives.
use Rattle.std.specs.Prelude.{◌≡◌, ℕ, ◌+◌, ◌-◌, ◌≤◌, true, List, ◌++◌, map, length, take, drop, slice_index}
use Rattle.costs.specs.Structures.{Structure}
use Rattle.problems.specs.Records.{Placed, function_in, all_proper}
use Rattle.variables.specs.Rules.{no_order_or}
use Rattle.buckets.specs.Made.{bucket_made, scopes_made, all_cells, placed_made}
use Rattle.buckets.specs.Processed.{scopes_of}
use Rattle.buckets.specs.Tables.{Below}

-- a job of at most 64 functions whose messages are narrow
pub record Able (sizes order : List ℕ) (w : ℕ) (fs : List Placed) : Type 0 where
  pub ordered : no_order_or (length sizes) order ≡ true
  pub narrow : w ≤ 6
  pub scoped : all_proper (length sizes) fs ≡ true
  pub count : length fs ≤ 64

-- with cells for their tables behind those that stand
pub record Spacious (sizes order : List ℕ) (w : ℕ) (fs : List Placed) (at cells : ℕ) : Type 0 where
  pub below : Below sizes at fs
  pub room : at + all_cells sizes (scopes_made order w (scopes_of fs) (length order)) ≤ cells

-- the buckets after i have been processed, in an area with tables from `at` to `end`
pub record Gone {C : Type 0} (K : Structure C) (sizes order : List ℕ) (w : ℕ) (fs : List Placed) (area : List C) (at i : ℕ) (rs : List Placed) (reach : List ℕ) (area' : List C) (end : ℕ) : Type 0 where
  pub records : rs ≡ fs ++ placed_made sizes order w (scopes_of fs) at (length order - i)
  pub tables : map (function_in sizes area') (placed_made sizes order w (scopes_of fs) at (length order - i)) ≡ bucket_made K sizes order w (map (function_in sizes area) fs) (length order - i)
  pub ends : end ≡ at + all_cells sizes (scopes_made order w (scopes_of fs) (length order - i))
  pub reached : (p : ℕ) → i ≤ p → p ≤ length order → slice_index reach p ≡ length fs + length (scopes_made order w (scopes_of fs) (length order - p))
  pub long : length area' ≡ length area
  pub before : take at area' ≡ take at area
  pub behind : drop end area' ≡ drop end area
