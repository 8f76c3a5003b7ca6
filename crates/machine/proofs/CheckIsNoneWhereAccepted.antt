-- The refusal that is told before a step is the one that the step meets.
use Rattle.std.proofs.Common.{◌≡◌, None, Result, Ok, Err, refl, ap}
use Rattle.outcomes.specs.Outcomes.{refusal_of}
use Rattle.machine.specs.declared.step.Step.{Step}
use Rattle.machine.specs.declared.step.Seen.{Seen}
use Rattle.machine.specs.declared.refusal.Refusal.{Refusal}
use Rattle.machine.specs.State.{State}
use Rattle.machine.specs.Steps.{step_of}

abbrev Accepted : Result (Seen × State) Refusal → Type 0
Accepted r = (seen : Seen) × (t : State) × (r ≡ Ok (seen, t))

unrefused : (r : Result (Seen × State) Refusal) → refusal_of r ≡ None → Accepted r
unrefused (Ok done) e = (done.0, done.1, refl)
unrefused (Err refusal) e = absurd (cc)

pub none_only : (s : State) (step : Step) → refusal_of (step_of s step) ≡ None → Accepted (step_of s step)
none_only s step e = unrefused (step_of s step) e

pub none_always : (s t : State) (step : Step) (seen : Seen) → step_of s step ≡ Ok (seen, t) → refusal_of (step_of s step) ≡ None
none_always s t step seen e = ap (λ (r : Result (Seen × State) Refusal). refusal_of r) e
