-- What a write to the part that a call names leaves.
use Rattle.std.proofs.Common.{◌≡◌, ℕ, ◌-◌, ◌≤◌, List, length, arith, rules}
use borrow.Rule.Slice.PartMut.{put_mid}
use Rattle.std.proofs.lemmas.Slice.{between-put_mid}
use Rattle.std.proofs.lemmas.List.{places}
use Rattle.replay.specs.declared.calls.Part.{Part}
use Rattle.replay.specs.Parts.{from, to, lent}
use Rattle.replay.specs.Chain.{Only}

module _ {X : Type 0} (p : Part) (xs ys : List X) (i e : ℕ) (a : i ≡ from p (length xs)) (b : e ≡ to p (length xs)) (h : i ≤ e) (h' : e ≤ length xs) (l : length ys ≡ e - i) where
  long : length (put_mid i (e - i) xs ys) ≡ length xs
  long = search (rules, places)

  pub lent_put : lent p (put_mid i (e - i) xs ys) ≡ ys
  lent_put = rw (long, ← a, ← b) (between-put_mid i (e - i) xs ys e (omega arith) l)

  pub only_put : Only p xs (put_mid i (e - i) xs ys)
  only_put = (long, rw (lent_put, ← a, ← b) (search (rules, places)))
