-- One more call at the end of a chain.
use Rattle.std.proofs.Common.{◌≡◌, ℕ, ◌+◌, ◌<◌, ◌≤◌, List, [], ◌∷◌, ◌++◌, length, get_or, take, refl, subst}
use Rattle.std.proofs.lemmas.List.{take_more, take_all}
use Rattle.costs.specs.Structures.{Structure}
use Rattle.floors.specs.Rules.{Rules}
use Rattle.replay.specs.declared.calls.Call.{Call}
use Rattle.replay.specs.declared.calls.Answer.{Answer}
use Rattle.replay.specs.Chain.{World, Link, Chain}

module _ {C S : Type 0} (K : Structure C) (R : Rules C S) where
  chain_more : (w m v : World C S) (cs : List (Call C)) (rs : List (Answer C)) (c : Call C) (r : Answer C) → Chain K R w cs rs m → Link K R m c r v → Chain K R w (cs ++ c ∷ []) (rs ++ r ∷ []) v
  chain_more w m v [] [] c r h k = (v, (subst (λ (x : World C S). Link K R x c r v) h k, refl))
  chain_more w m v [] (y ∷ rs) c r h k = absurd h
  chain_more w m v (x ∷ cs) [] c r h k = absurd h
  chain_more w m v (x ∷ cs) (y ∷ rs) c r h k = (h.0, (h.1.0, chain_more h.0 m v cs rs c r h.1.1 k))

  -- one turn of the loop over the calls, and its end
  pub chain_next : (w m v : World C S) (cs : List (Call C)) (i : ℕ) (rs rs' : List (Answer C)) (c : Call C) (r : Answer C) → i < length cs → c ≡ get_or cs i c → rs' ≡ rs ++ r ∷ []
      → Chain K R w (take i cs) rs m → Link K R m c r v → Chain K R w (take (i + 1) cs) rs' v
  chain_next w m v cs i rs rs' c r h e f k l = rw (f, take_more cs i c h, ← e) (chain_more w m v (take i cs) rs c r k l)

  pub chain_all : (w v : World C S) (cs : List (Call C)) (i : ℕ) (rs : List (Answer C)) → length cs ≤ i → Chain K R w (take i cs) rs v → Chain K R w cs rs v
  chain_all w v cs i rs h k = rw (take_all i cs h) at k
