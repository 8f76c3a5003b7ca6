-- Histories that lead from one state to another.
use Rattle.std.proofs.Common.{◌≡◌, ℕ, zero, suc, ◌+◌, Option, None, Result, Ok, Err, List, [], ◌∷◌, ◌++◌, length, take, refl, sym, ◌∙◌, ap}
use Rattle.std.proofs.lemmas.List.{length-append}
use Rattle.machine.specs.declared.step.Step.{Step}
use Rattle.machine.specs.declared.step.Seen.{Seen}
use Rattle.machine.specs.declared.refusal.Refusal.{Refusal}
use Rattle.machine.specs.State.{State}
use Rattle.machine.specs.Steps.{End, step_of, end_after, run_of}
use Rattle.machine.specs.StepRelations.{after_more}
use Rattle.machine.proofs.RunIsAPrefix.{run_parts, run_whole}
use Rattle.debugger.specs.Pasts.{AreAccepted, Leads}

pub run_state : (first second : List Step) (s : State) → AreAccepted first s → (run_of (first ++ second) s).state ≡ (run_of second (run_of first s).state).state
run_state first second s a = ap (λ (x : End). x.state) (run_parts first second s a)

pub run_accepted : (first second : List Step) (s : State) → AreAccepted first s → AreAccepted second (run_of first s).state → AreAccepted (first ++ second) s
run_accepted first second s a b = ap (λ (x : End). x.refusal) (run_parts first second s a) ∙ b

pub rest_accepted : (first second : List Step) (s : State) → AreAccepted first s → AreAccepted (first ++ second) s → AreAccepted second (run_of first s).state
rest_accepted first second s a b = sym (ap (λ (x : End). x.refusal) (run_parts first second s a)) ∙ b

pub one_accepted : (e : Step) (s t : State) (d : Seen) → step_of s e ≡ Ok (d, t) → AreAccepted (e ∷ []) s
one_accepted e s t d r = rw r refl

pub one_state : (e : Step) (s t : State) (d : Seen) → step_of s e ≡ Ok (d, t) → (run_of (e ∷ []) s).state ≡ t
one_state e s t d r = rw r refl

one_run : (e : Step) (s t : State) (d : Seen) → step_of s e ≡ Ok (d, t) → run_of (e ∷ []) s ≡ record { accepted = 1; refusal = None; state = t }
one_run e s t d r = rw r refl

-- an accepted list leads somewhere
pub leads : (steps : List Step) (s : State) → AreAccepted steps s → Leads s steps (run_of steps s).state
leads steps s a =
    ap (λ (n : ℕ). record (run_of steps s) { accepted = n }) (run_whole steps s a)
    ∙ ap (λ (r : Option Refusal). record (run_of steps s) { accepted = length steps; refusal = r }) a

front_on : (s : State) (r : Result (Seen × State) Refusal) (front rest : State → End) → ((t : State) → (rest t).refusal ≡ None → (front t).refusal ≡ None)
    → (end_after s r rest).refusal ≡ None → (end_after s r front).refusal ≡ None
front_on s (Ok done) front rest h e = h done.1 e
front_on s (Err refusal) front rest h e = absurd (cc)

pub front_accepted : (n : ℕ) (steps : List Step) (s : State) → AreAccepted steps s → AreAccepted (take n steps) s
front_accepted zero steps s a = refl
front_accepted (suc n) [] s a = refl
front_accepted (suc n) (step ∷ steps) s a = front_on s (step_of s step) (run_of (take n steps)) (run_of steps) (front_accepted n steps) a

pub led_more : (o s t : State) (h more : List Step) (e : Step) (d : Seen) → Leads o h s → step_of s e ≡ Ok (d, t) → more ≡ h ++ e ∷ [] → Leads o more t
led_more o s t h more e d led r p =
    let a : AreAccepted h o = ap (λ (x : End). x.refusal) led in
    let long : length h + 1 ≡ length more = sym (length-append h (e ∷ [])) ∙ ap (λ (xs : List Step). length xs) (sym p) in
    ap (λ (xs : List Step). run_of xs o) p ∙ run_parts h (e ∷ []) o a
    ∙ ap (λ (x : End). after_more x.accepted (run_of (e ∷ []) x.state)) led
    ∙ ap (λ (x : End). after_more (length h) x) (one_run e s t d r)
    ∙ ap (λ (n : ℕ). record { accepted = n; refusal = None; state = t }) long

pub led_front : (o s t : State) (h kept : List Step) (n : ℕ) → Leads o h s → kept ≡ take n h → t ≡ (run_of (take n h) o).state → Leads o kept t
led_front o s t h kept n led p q =
    let a : AreAccepted h o = ap (λ (x : End). x.refusal) led in
    let one : Leads o (take n h) (run_of (take n h) o).state = leads (take n h) o (front_accepted n h o a) in
    rw (p, q) one
