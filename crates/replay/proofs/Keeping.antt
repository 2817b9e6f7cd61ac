-- The model agrees with the job and its cells, call by call: so the promise follows from the chain.
use Rattle.std.proofs.Common.{◌≡◌, ℕ, true, List, [], ◌∷◌, length, vec_items, refl, ap, ◌∙◌, subst, arith, length-drop, length-take}
use Rattle.std.proofs.lemmas.List.{same_lists, places}
use Rattle.costs.specs.Structures.{Structure, Lawful}
use Rattle.floors.specs.Rules.{Rules, Sound}
use Rattle.jobs.specs.Standings.{standing}
use Rattle.replay.specs.declared.calls.Part.{Part}
use Rattle.replay.specs.declared.calls.Call.{Call}
use Rattle.replay.specs.declared.calls.Call.TheVariants.{Open, Enter, Amend, Prepare, Step, Report, Reopen, Close}
use Rattle.replay.specs.declared.calls.Answer.{Answer}
use Rattle.replay.specs.declared.calls.Answer.TheVariants.{Done, Entered as Numbered, Stepped as Moved, Reported as Told, Refused}
use Rattle.replay.specs.Parts.{lent, placed}
use Rattle.replay.specs.Chain.{World, Only, Link, Chain, Run}
use Rattle.replay.specs.Model.{Model, empty, accepted, kept}
use Rattle.replay.specs.Promise.{Brings, Holds, Proper, Truthful, Promise}
use Rattle.replay.proofs.Standings.{not_closed}
use Rattle.replay.proofs.Agreements.{Agrees, agrees_closed}
use Rattle.replay.proofs.Accepted.{entered_draft, amended_draft, prepared_draft, stepped_on, reported_on, reopened_on}
use Rattle.replay.proofs.Drafts.{opens, enters, amends, reopens}
use Rattle.replay.proofs.Prepares.{prepares}
use Rattle.replay.proofs.Steps.{steps, stepped}
use Rattle.replay.proofs.Reports.{reports}

placed_lent : {X : Type 0} (p : Part) (xs : List X) → placed p xs (lent p xs) ≡ xs
placed_lent p xs = same_lists _ _ (grind (arith, places)) (λ k d h. grind (arith, places))

-- a part that was lent and came back as it was
same_cells : {X : Type 0} (p : Part) (xs ys : List X) → Only p xs ys → lent p ys ≡ lent p xs → ys ≡ xs
same_cells p xs ys o e = o.1 ∙ ap (placed p xs) e ∙ placed_lent p xs

-- a part is as long as it was
same_length : {X : Type 0} (p : Part) (xs ys : List X) → length ys ≡ length xs → length (lent p ys) ≡ length (lent p xs)
same_length p xs ys e = simp (length-take, length-drop, e)

module _ {C S : Type 0} (K : Structure C) (R : Rules C S) (lawful : Lawful K) (sound : Sound K R) where
  abbrev On : Model C → World C S → Type 0
  On m w = Agrees K R m (standing w.job) w.job.source (lent m.part w.cells)

  -- the model after one call, and what the answer shows
  abbrev Next : Model C → Call C → Answer C → World C S → Type 0
  Next m c r v = On (kept K m c r) v × Holds K (kept K m c r) r

  still : (m : Model C) (w v : World C S) → v.job ≡ w.job → v.cells ≡ w.cells → On m w → On m v
  still m w v e f h = rw (e, f) h

  next : (m : Model C) (w v : World C S) (c : Call C) (r : Answer C) → On m w → Link K R w c r v → (accepted r ≡ true → Brings K m c) → Next m c r v
  next m w v (Open sizes p) Done h l b =
      (opens K R _ w.job v.job (vec_items sizes) p (lent p v.cells) _ l.0.1 (ap (λ (xs : List C). length (lent p xs)) l.1) refl, tt)
  next m w v (Open sizes p) (Numbered k) h l b = absurd l.0
  next m w v (Open sizes p) (Moved s) h l b = absurd l.0
  next m w v (Open sizes p) (Told x s) h l b = absurd l.0
  next m w v (Open sizes p) (Refused e) h l b = (still m w v l.0.1 l.1 h, tt)
  next m w v (Enter scope c p) Done h l b = absurd l.0
  next m w v (Enter scope c p) (Numbered k) h l b =
      let a = subst (λ (z : Part). Link K R w (Enter scope c z) (Numbered k) v) (b refl) l in
      (enters K R m _ w.job v.job _ _ (vec_items scope) c k a.0.1 (entered_draft (standing w.job) (vec_items scope) _ a.0.0) h (same_length m.part _ _ a.1.0) refl, tt)
  next m w v (Enter scope c p) (Moved s) h l b = absurd l.0
  next m w v (Enter scope c p) (Told x s) h l b = absurd l.0
  next m w v (Enter scope c p) (Refused e) h l b = (still m w v l.0.1.0 (same_cells p w.cells v.cells l.1 l.0.1.1) h, tt)
  next m w v (Amend k tuple c p) Done h l b =
      let a = subst (λ (z : Part). Link K R w (Amend k tuple c z) Done v) (b refl) l in
      (amends K R m _ w.job v.job _ _ k (vec_items tuple) c a.0.1 (amended_draft (standing w.job) k (vec_items tuple) _ a.0.0) h (same_length m.part _ _ a.1.0) refl, tt)
  next m w v (Amend k tuple c p) (Numbered n) h l b = absurd l.0
  next m w v (Amend k tuple c p) (Moved s) h l b = absurd l.0
  next m w v (Amend k tuple c p) (Told x s) h l b = absurd l.0
  next m w v (Amend k tuple c p) (Refused e) h l b = (still m w v l.0.1.0 (same_cells p w.cells v.cells l.1 l.0.1.1) h, tt)
  next m w v (Prepare order limit p) Done h l b =
      let a = subst (λ (z : Part). Link K R w (Prepare order limit z) Done v) (b refl) l in
      (prepares K R m _ w.job v.job _ _ (vec_items order) limit a.0.0 a.0.1 (prepared_draft (standing w.job) R w.job.source (vec_items order) _ a.0.0) h (same_length m.part _ _ a.1.0) refl, tt)
  next m w v (Prepare order limit p) (Numbered n) h l b = absurd l.0
  next m w v (Prepare order limit p) (Moved s) h l b = absurd l.0
  next m w v (Prepare order limit p) (Told x s) h l b = absurd l.0
  next m w v (Prepare order limit p) (Refused e) h l b = (still m w v l.0.1.0 (same_cells p w.cells v.cells l.1 l.0.1.1) h, tt)
  next m w v (Step budget p) Done h l b = absurd l.0
  next m w v (Step budget p) (Numbered n) h l b = absurd l.0
  next m w v (Step budget p) (Moved s) h l b =
      let a = subst (λ (z : Part). Link K R w (Step budget z) (Moved s) v) (b refl) l in
      let on = stepped_on (standing w.job) budget (length (lent m.part w.cells)) a.0.0 in
      let after = steps K R lawful sound m (kept K m (Step budget p) (Moved s)) w.job v.job _ _ budget s a.0.1 on h refl in
      (after, stepped K R lawful sound _ w.job v.job _ _ budget s a.0.1 after)
  next m w v (Step budget p) (Told x s) h l b = absurd l.0
  next m w v (Step budget p) (Refused e) h l b = (still m w v l.0.1.0 (same_cells p w.cells v.cells l.1 l.0.1.1) h, tt)
  next m w v (Report q p) Done h l b = absurd l.0
  next m w v (Report q p) (Numbered n) h l b = absurd l.0
  next m w v (Report q p) (Moved s) h l b = absurd l.0
  next m w v (Report q p) (Told x s) h l b =
      let a = subst (λ (z : Part). Link K R w (Report q z) (Told x s) v) (b refl) l in
      let on = reported_on (standing w.job) (length (lent q w.bytes)) (length (lent m.part w.cells)) a.0.1.0 in
      (still m w v l.1 l.2 h, rw a.0.0 (reports K R lawful sound m w.job _ (lent q w.bytes) (lent q v.bytes) x a.0.1.1 on h))
  next m w v (Report q p) (Refused e) h l b = (still m w v l.1 l.2 h, tt)
  next m w v Reopen Done h l b =
      let on = not_closed _ (reopened_on (standing w.job) l.0.0) in
      (reopens K R m w.job v.job _ l.0.1 on (rw l.1 h), tt)
  next m w v Reopen (Numbered n) h l b = absurd l.0
  next m w v Reopen (Moved s) h l b = absurd l.0
  next m w v Reopen (Told x s) h l b = absurd l.0
  next m w v Reopen (Refused e) h l b = (still m w v l.0.1 l.1 h, tt)
  next m w v Close Done h l b = (agrees_closed K R v.job w.job.source _ l.1, tt)
  next m w v Close (Numbered n) h l b = absurd (grind (arith, l.0))
  next m w v Close (Moved s) h l b = absurd (grind (arith, l.0))
  next m w v Close (Told x s) h l b = absurd (grind (arith, l.0))
  next m w v Close (Refused e) h l b = absurd (grind (arith, l.0))

  truthful : (m : Model C) (w v : World C S) (cs : List (Call C)) (rs : List (Answer C)) → On m w → Chain K R w cs rs v → Proper K m cs rs → Truthful K m cs rs
  truthful m w v [] rs h k p = tt
  truthful m w v (c ∷ cs) [] h k p = tt
  truthful m w v (c ∷ cs) (r ∷ rs) h k p =
      let n = next m w k.0 c r h k.1.0 p.0 in
      (n.1, truthful (kept K m c r) k.0 v cs rs n.0 k.1.1 p.1)

-- the promise of a whole run
pub promised : {C S : Type 0} {K : Structure C} {R : Rules C S} {source : S} {cells cells' : List C} {bytes bytes' : List ℕ} {calls : List (Call C)} {answers : List (Answer C)} → Lawful K → Sound K R
    → Run K R source cells cells' bytes bytes' calls answers → Promise K calls answers
promised {K} {R} {source} {cells} {cells'} {bytes} {bytes'} {calls} {answers} lawful sound run =
    truthful K R lawful sound (empty K) (record { job = run.first; cells = cells; bytes = bytes }) (record { job = run.last; cells = cells'; bytes = bytes' }) calls answers
    (agrees_closed K R run.first source _ run.fresh) run.links
