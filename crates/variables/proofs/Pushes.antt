-- A list of variables after one more was pushed.
use Rattle.std.proofs.Common.{ℕ, zero, suc, ◌<◌, List, [], ◌∷◌, ◌++◌, get_or, arith}

pub each_more : (us : List ℕ) (v : ℕ) → v < 32 → ((p : ℕ) → get_or us p 0 < 32) → (p : ℕ) → get_or (us ++ v ∷ []) p 0 < 32
each_more [] v h before zero = h
each_more [] v h before (suc p) = omega arith
each_more (u ∷ us) v h before zero = before zero
each_more (u ∷ us) v h before (suc p) = each_more us v h (λ q. before (suc q)) p
