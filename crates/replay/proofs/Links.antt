-- The call's own promise, of the parts that were lent, is a link of the chain.
use Rattle.std.proofs.Common.{◌≡◌, ℕ, ◌-◌, ◌≤◌, List, length, take, drop, None, vec_items, Result, Vec, sym, refl, ◌∙◌, arith, length-drop, length-take}
use borrow.Rule.Slice.PartMut.{put_mid}
use Rattle.std.specs.declared.alloc.Global.{Global}
use Rattle.std.proofs.lemmas.List.{take_all}
use Rattle.std.proofs.lemmas.Bool.{not-false, eqb-true}
use Rattle.costs.specs.Structures.{Structure}
use Rattle.variables.specs.declared.refusal.Refusal.{Refusal}
use Rattle.variables.specs.Refusals.{Answers, first_of}
use Rattle.floors.specs.Rules.{Rules}
use Rattle.jobs.specs.declared.answer.Stepped.{Stepped}
use Rattle.jobs.specs.declared.answer.Report.{Report as Reported}
use Rattle.jobs.specs.declared.job.Job.{Job}
use Rattle.jobs.specs.Standings.{standing}
use Rattle.jobs.specs.Calls.{enter_rows, Entered, amend_rows, Amended}
use Rattle.jobs.specs.Planning.{prepare_rows, Prepared, step_rows, Steps, report_rows, Reports}
use Rattle.replay.specs.declared.calls.Part.{Part}
use Rattle.replay.specs.declared.calls.Shown.{Shown}
use Rattle.replay.specs.declared.calls.Call.TheVariants.{Enter, Amend, Prepare, Step, Report}
use Rattle.replay.specs.declared.calls.Answer.{Answer}
use Rattle.replay.specs.declared.calls.Answer.TheVariants.{Done, Entered as Numbered, Stepped as Moved, Reported as Told, Refused}
use Rattle.replay.specs.Parts.{from, to, lent}
use Rattle.replay.specs.Shows.{shown_of, done, numbered, moved}
use Rattle.replay.specs.Chain.{World, Only, Link}
use Rattle.replay.proofs.Accepted.{passed}
use Rattle.replay.proofs.Puts.{lent_put, only_put}

module _ {C : Type 0} where
  done_as : (a : Answer C) (r : Result (Unit {0}) Refusal) (P : Result (Unit {0}) Refusal → Type 0) → done a (λ x. x ≡ r) → P r → done a P
  done_as Done r P e h = rw e h
  done_as (Numbered k) r P e h = e
  done_as (Moved s) r P e h = e
  done_as (Told x s) r P e h = e
  done_as (Refused w) r P e h = rw e h

  numbered_as : (a : Answer C) (r : Result ℕ Refusal) (P : Result ℕ Refusal → Type 0) → numbered a (λ x. x ≡ r) → P r → numbered a P
  numbered_as Done r P e h = e
  numbered_as (Numbered k) r P e h = rw e h
  numbered_as (Moved s) r P e h = e
  numbered_as (Told x s) r P e h = e
  numbered_as (Refused w) r P e h = rw e h

  moved_as : (a : Answer C) (r : Result Stepped Refusal) (P : Result Stepped Refusal → Type 0) → moved a (λ x. x ≡ r) → P r → moved a P
  moved_as Done r P e h = e
  moved_as (Numbered k) r P e h = e
  moved_as (Moved s) r P e h = rw e h
  moved_as (Told x s) r P e h = e
  moved_as (Refused w) r P e h = rw e h

-- where a part lies
abbrev pub Spans : {X : Type 0} → Part → List X → ℕ → ℕ → Type 0
Spans p xs i e = (i ≡ from p (length xs)) × (e ≡ to p (length xs)) × (i ≤ e) × (e ≤ length xs)

module _ {X : Type 0} (p : Part) (xs ys : List X) (i e : ℕ) (s : Spans p xs i e) where
  -- what is so of the cells that were lent
  pub lent_so : (P : List X → Type 0) → P (take (e - i) (drop i xs)) → P (lent p xs)
  lent_so P h = rw (← s.0, ← s.1) h

  -- and of those and what they hold now
  put_so : length ys ≡ e - i → (P : List X → List X → Type 0) → P (take (e - i) (drop i xs)) ys → P (lent p xs) (lent p (put_mid i (e - i) xs ys))
  put_so l P h = rw (lent_put p xs ys i e s.0 s.1 s.2 s.3 l) (lent_so (λ u. P u ys) h)

module _ {C S : Type 0} (K : Structure C) (R : Rules C S) (job job' : Job C S) (cells area' : List C) (bytes : List ℕ) (p : Part) (i e : ℕ) (s : Spans p cells i e) (long : length area' ≡ e - i) where
  abbrev before : World C S
  before = record { job = job; cells = cells; bytes = bytes }

  abbrev after : World C S
  after = record { job = job'; cells = put_mid i (e - i) cells area'; bytes = bytes }

  abbrev area : List C
  area = take (e - i) (drop i cells)

  only : Only p cells (put_mid i (e - i) cells area')
  only = only_put p cells area' i e s.0 s.1 s.2 s.3 long

  pub enter_link : (scope : Vec ℕ Global) (slice : List ℕ) (c : C) (a : Answer C) (r : Result ℕ Refusal) → slice ≡ vec_items scope → numbered a (λ x. x ≡ r)
      → Answers (first_of (enter_rows (standing job) slice (length area))) r (Entered job job' area area' slice c) ((job' ≡ job) × (area' ≡ area)) → Link K R before (Enter scope c p) a after
  enter_link scope slice c a r same is h =
      (numbered_as a r _ is (put_so p cells area' i e s long (λ u v. Answers (first_of (enter_rows (standing job) (vec_items scope) (length u))) r (Entered job job' u v (vec_items scope) c) ((job' ≡ job) × (v ≡ u))) (rw same at h)), only, refl)

  pub amend_link : (k : ℕ) (tuple : Vec ℕ Global) (slice : List ℕ) (c : C) (a : Answer C) (r : Result (Unit {0}) Refusal) → slice ≡ vec_items tuple → done a (λ x. x ≡ r)
      → Answers (first_of (amend_rows (standing job) k slice (length area))) r (λ _. Amended job job' area area' k slice c) ((job' ≡ job) × (area' ≡ area)) → Link K R before (Amend k tuple c p) a after
  amend_link k tuple slice c a r same is h =
      (done_as a r _ is (put_so p cells area' i e s long (λ u v. Answers (first_of (amend_rows (standing job) k (vec_items tuple) (length u))) r (λ _. Amended job job' u v k (vec_items tuple) c) ((job' ≡ job) × (v ≡ u))) (rw same at h)), only, refl)

  pub prepare_link : (order : Vec ℕ Global) (slice : List ℕ) (limit : C) (a : Answer C) (r : Result (Unit {0}) Refusal) → slice ≡ vec_items order → done a (λ x. x ≡ r)
      → Answers (first_of (prepare_rows R (standing job) job.source slice (length area))) r (λ _. Prepared R job job' area area' slice limit) ((job' ≡ job) × (area' ≡ area)) → Link K R before (Prepare order limit p) a after
  prepare_link order slice limit a r same is h =
      (done_as a r _ is (put_so p cells area' i e s long (λ u v. Answers (first_of (prepare_rows R (standing job) job.source (vec_items order) (length u))) r (λ _. Prepared R job job' u v (vec_items order) limit) ((job' ≡ job) × (v ≡ u))) (rw same at h)), only, refl)

  pub step_link : (budget : ℕ) (a : Answer C) (r : Result Stepped Refusal) → moved a (λ x. x ≡ r)
      → Answers (first_of (step_rows (standing job) budget (length area))) r (Steps R K job job' area area' budget) ((job' ≡ job) × (area' ≡ area)) → Link K R before (Step budget p) a after
  step_link budget a r is h =
      (moved_as a r _ is (put_so p cells area' i e s long (λ u v. Answers (first_of (step_rows (standing job) budget (length u))) r (Steps R K job job' u v budget) ((job' ≡ job) × (v ≡ u))) h), only, refl)

module _ {C S : Type 0} (K : Structure C) (R : Rules C S) (job : Job C S) (cells : List C) (bytes buffer' : List ℕ) (q p : Part) (j f i e : ℕ)
    (t : Spans q bytes j f) (s : Spans p cells i e) (long : length buffer' ≡ f - j) where
  -- an accepted report's buffer has a place for each variable, and there are at most 32
  few_places : (places size : ℕ) → first_of (report_rows (standing job) places size) ≡ None → places ≤ 32
  few_places places size h =
      let same = eqb-true places (length (standing job).outline.sizes) (not-false _ (passed (report_rows (standing job) places size) h).1.1.0) in
      let sizes = job.plain.shape.sizes in
      omega (arith, same, length-take sizes.len sizes.sizes, sizes.few)

  -- a report that was accepted, with what its buffer holds
  pub report_link : (x : Reported C) (shown : Shown) → shown_of shown ≡ take 32 buffer'
      → (first_of (report_rows (standing job) (length (take (f - j) (drop j bytes))) (length (take (e - i) (drop i cells)))) ≡ None)
      × Reports R K job (take (e - i) (drop i cells)) (take (f - j) (drop j bytes)) buffer' x
      → Link K R (record { job = job; cells = cells; bytes = bytes }) (Report q p) (Told x shown) (record { job = job; cells = cells; bytes = put_mid j (f - j) bytes buffer' })
  report_link x shown is h =
      let seen : lent q (put_mid j (f - j) bytes buffer') ≡ buffer' = lent_put q bytes buffer' j f t.0 t.1 t.2 t.3 long in
      let there : length (lent q bytes) ≡ f - j = lent_so q bytes bytes j f t (λ u. length u ≡ f - j) (simp (length-take, length-drop) (omega arith)) in
      let at = put_so q bytes buffer' j f t long (λ u v. (first_of (report_rows (standing job) (length u) (length (lent p cells))) ≡ None) × Reports R K job (lent p cells) u v x)
      (lent_so p cells cells i e s (λ w. (first_of (report_rows (standing job) (length (take (f - j) (drop j bytes))) (length w)) ≡ None) × Reports R K job w (take (f - j) (drop j bytes)) buffer' x) h) in
      let few : length buffer' ≤ 32 = omega (arith, few_places (length (lent q bytes)) (length (lent p cells)) at.0, there, long) in
      ((is ∙ take_all 32 buffer' few ∙ sym seen, at), refl, refl, only_put q bytes buffer' j f t.0 t.1 t.2 t.3 long)
