-- What the runs of a machine show of its program.
use Rattle.std.proofs.Common.{◌≡◌, Bool, true, false, None, Result, Ok, Err, List, [], ◌∷◌, ◌++◌, refl, sym, ap, subst, ◌∙◌, true≢false}
use Rattle.std.specs.Prelude.{◌||◌}
use Rattle.std.specs.List.{list_any}
use Rattle.std.proofs.lemmas.Bool.{or_parts}
use Rattle.machine.specs.declared.refusal.Refusal.{Refusal}
use Rattle.machine.specs.declared.step.Seen.{Seen}
use Rattle.machine.specs.declared.step.Seen.TheVariants.{Ran, Left, Persisted, Settled, Crashed}
use Rattle.machine.specs.declared.step.Step.{Step}
use Rattle.machine.specs.State.{State}
use Rattle.machine.specs.Steps.{end_after, run_of, step_of}
use Rattle.explore.specs.Reachable.{IsReachable, is_crash}
use Rattle.explore.specs.declared.event.Event.{Event}
use Rattle.explore.specs.Alone.{events_shown}

abbrev pub events_of : Seen → List Event
events_of (Ran p place act) = events_shown act
events_of (Left p i entry) = []
events_of (Persisted word value) = []
events_of (Settled line) = []
events_of (Crashed count) = []

-- The steps are all accepted, none is a crash, they lead from one state to another, and these are the events that they show.
abbrev pub Shows : State → List Step → List Event → State → Type 0
Shows s [] events t = (events ≡ []) × (t ≡ s)
Shows s (step ∷ steps) events t =
    (seen : Seen) × (mid : State) × (more : List Event) × (is_crash step ≡ false) × (step_of s step ≡ Ok (seen, mid)) × (events ≡ events_of seen ++ more) × Shows mid steps more t

-- accepted steps, crashes among them
abbrev pub Comes : State → List Step → State → Type 0
Comes s [] t = t ≡ s
Comes s (step ∷ steps) t = (seen : Seen) × (mid : State) × (step_of s step ≡ Ok (seen, mid)) × Comes mid steps t

pub comes_of : (steps : List Step) (s : State) → (run_of steps s).refusal ≡ None → Comes s steps (run_of steps s).state
comes_of [] s accepted = refl
comes_of (step ∷ steps) s accepted = by (step_of s step) refl accepted (λ mid. comes_of steps mid)
  where
    by : (r : Result (Seen × State) Refusal) → step_of s step ≡ r → (end_after s r (run_of steps)).refusal ≡ None → ((mid : State) → (run_of steps mid).refusal ≡ None → Comes mid steps (run_of steps mid).state)
        → Comes s (step ∷ steps) (end_after s r (run_of steps)).state
    by (Ok done) is e h = (done.0, done.1, is, h done.1 e)
    by (Err refusal) is e h = absurd (cc)

-- a run without a crash shows some events
shows_of : (steps : List Step) (s t : State) → list_any is_crash steps ≡ false → Comes s steps t → (events : List Event) × Shows s steps events t
shows_of [] s t plain same = ([], (refl, same))
shows_of (step ∷ steps) s t plain (seen, mid, e, comes) =
    let parts = or_parts (is_crash step) (list_any is_crash steps) plain in
    let (more, shows) = shows_of steps mid t parts.1 comes in
    (events_of seen ++ more, (seen, mid, more, parts.0, e, refl, shows))

no_crash : (b : Bool) → (b ≡ true → false ≡ true) → b ≡ false
no_crash true h = absurd (true≢false (sym (h refl)))
no_crash false h = refl

pub shown_by : (s t : State) → IsReachable false s t → (steps : List Step) × (events : List Event) × Shows s steps events t
shown_by s t (steps, is) =
    let (events, shows) = shows_of steps s t (no_crash (list_any is_crash steps) is.crashing) (subst (Comes s steps) is.leads (comes_of steps s is.accepted)) in
    (steps, events, shows)

-- and what shows some is a run without a crash
shown_accepted : (steps : List Step) (s t : State) (events : List Event) → Shows s steps events t → ((run_of steps s).refusal ≡ None) × ((run_of steps s).state ≡ t)
shown_accepted [] s t events (none, same) = (refl, sym same)
shown_accepted (step ∷ steps) s t events (seen, mid, more, plain, e, all, shows) =
    let rest = shown_accepted steps mid t more shows in (
      ap (λ (r : Result (Seen × State) Refusal). (end_after s r (run_of steps)).refusal) e ∙ rest.0,
      ap (λ (r : Result (Seen × State) Refusal). (end_after s r (run_of steps)).state) e ∙ rest.1,
    )

shown_plain : (steps : List Step) (s t : State) (events : List Event) → Shows s steps events t → list_any is_crash steps ≡ false
shown_plain [] s t events shows = refl
shown_plain (step ∷ steps) s t events (seen, mid, more, plain, e, all, shows) = ap (λ (b : Bool). b || list_any is_crash steps) plain ∙ shown_plain steps mid t more shows

pub reachable_by : (steps : List Step) (s t : State) (events : List Event) → Shows s steps events t → IsReachable false s t
reachable_by steps s t events shows =
    let run = shown_accepted steps s t events shows in
    (steps, record { accepted = run.0; leads = run.1; crashing = λ crash. sym (shown_plain steps s t events shows) ∙ crash })
