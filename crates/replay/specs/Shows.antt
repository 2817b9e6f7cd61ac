-- What an answer says of the call's own result, and what a report showed.
use Rattle.std.specs.Prelude.{◌≡◌, ℕ, List, take, Ok, Err, Result}
use Rattle.variables.specs.declared.refusal.Refusal.{Refusal}
use Rattle.jobs.specs.declared.answer.Stepped.{Stepped}
use Rattle.jobs.specs.declared.answer.Report.{Report as Reported}
use Rattle.replay.specs.declared.calls.Shown.{Shown}
use Rattle.replay.specs.declared.calls.Answer.{Answer}
use Rattle.replay.specs.declared.calls.Answer.TheVariants.{Done, Entered as Numbered, Stepped as Moved, Reported as Told, Refused}

-- what a report showed in its buffer
abbrev pub shown_of : Shown → List ℕ
shown_of s = take s.len s.values

-- the answer of a call that says no more than that it was done
abbrev pub done : {C : Type 0} → Answer C → (Result (Unit {0}) Refusal → Type 0) → Type 0
done Done P = P (Ok tt)
done (Numbered k) P = ⊥
done (Moved s) P = ⊥
done (Told r s) P = ⊥
done (Refused e) P = P (Err e)

abbrev pub numbered : {C : Type 0} → Answer C → (Result ℕ Refusal → Type 0) → Type 0
numbered Done P = ⊥
numbered (Numbered k) P = P (Ok k)
numbered (Moved s) P = ⊥
numbered (Told r s) P = ⊥
numbered (Refused e) P = P (Err e)

abbrev pub moved : {C : Type 0} → Answer C → (Result Stepped Refusal → Type 0) → Type 0
moved Done P = ⊥
moved (Numbered k) P = ⊥
moved (Moved s) P = P (Ok s)
moved (Told r s) P = ⊥
moved (Refused e) P = P (Err e)

-- a report, with what its buffer holds after it
abbrev pub told : {C : Type 0} → Answer C → List ℕ → (Result (Reported C) Refusal → Type 0) → Type 0
told Done buffer P = ⊥
told (Numbered k) buffer P = ⊥
told (Moved s) buffer P = ⊥
told (Told r s) buffer P = (shown_of s ≡ buffer) × P (Ok r)
told (Refused e) buffer P = P (Err e)
