-- A legal journal with one call more, and the run that a journal of accepted steps is.
use Rattle.std.proofs.Common.{◌≡◌, ◌↔◌, ℕ, ◌+◌, List, [], ◌∷◌, ◌++◌, length, None, Result, Ok, Err, refl, sym, ap, ◌∙◌, subst, arith}
use Rattle.machine.specs.State.{State}
use Rattle.live.specs.declared.journal.Call.{Call}
use Rattle.live.specs.declared.journal.Answer.{Answer}
use Rattle.live.specs.declared.journal.JournalEntry.{JournalEntry}
use Rattle.machine.specs.Steps.{step_of, run_of, end_after, End}
use Rattle.machine.specs.declared.step.Step.{Step}
use Rattle.machine.specs.declared.step.Seen.{Seen}
use Rattle.machine.specs.declared.refusal.Refusal.{Refusal}
use Rattle.live.specs.declared.journal.Answer.TheVariants.{Made}
use Rattle.live.specs.Journal.{entry, answer_to, seen_of, state_after, state_from, replay, IsLegal, AreAccepted}

pub replay-push : (s : State) (es : List JournalEntry) (e : JournalEntry) → replay s (es ++ e ∷ []) ≡ state_from (replay s es) e.call
replay-push s [] e = refl
replay-push s (x ∷ es) e = replay-push (state_from s x.call) es e

pub IsLegal-push : (s : State) (es : List JournalEntry) (e : JournalEntry) → IsLegal s es → e.answer ≡ answer_to (replay s es) e.call → IsLegal s (es ++ e ∷ [])
IsLegal-push s [] e h same = (same, tt)
IsLegal-push s (x ∷ es) e h same = (h.0, IsLegal-push (state_from s x.call) es e h.1 same)

-- a call goes to the end of a journal
pub grown : (opening : State) (es now : List JournalEntry) (s t : State) (seat : ℕ) (call : Call) (a : Answer)
    → IsLegal opening es → s ≡ replay opening es → a ≡ answer_to s call → t ≡ state_from s call → now ≡ es ++ entry seat call a ∷ []
    → IsLegal opening now × (t ≡ replay opening now)
grown opening es now s t seat call a legal here answer after is =
    let e = entry seat call a in (
      subst (IsLegal opening) (sym is) (IsLegal-push opening es e legal (answer ∙ ap (λ x. answer_to x call) here)),
      after ∙ ap (λ x. state_from x call) here ∙ sym (replay-push opening es e) ∙ sym (ap (replay opening) is),
    )

-- and back
last_answer : (s : State) (es : List JournalEntry) (e : JournalEntry) → IsLegal s (es ++ e ∷ []) → IsLegal s es × (e.answer ≡ answer_to (replay s es) e.call)
last_answer s [] e h = (tt, h.0)
last_answer s (x ∷ es) e h = let rest = last_answer (state_from s x.call) es e h.1 in ((h.0, rest.0), rest.1)

pub legal_to_the_last : (s : State) (es : List JournalEntry) (e : JournalEntry) → IsLegal s (es ++ e ∷ []) ↔ IsLegal s es × (e.answer ≡ answer_to (replay s es) e.call)
legal_to_the_last s es e = (last_answer s es e, λ h. IsLegal-push s es e h.0 h.1)

-- where a step was accepted, the run goes on from its state
go_on : (s : State) (seen : Seen) (res : Result (Seen × State) Refusal) (rest : State → End) (n count : ℕ) (after : State)
    → Made (seen_of res) ≡ Made (Ok seen) → rest (state_after s res) ≡ record { accepted = n; refusal = None; state = after } → n + 1 ≡ count
    → end_after s res rest ≡ record { accepted = count; refusal = None; state = after }
go_on s seen (Ok done) rest n count after is on more =
    ap (λ (end : End). record end { accepted = end.accepted + 1 }) on ∙ ap {B = End} (λ (k : ℕ). record { accepted = k; refusal = None; state = after }) more
go_on s seen (Err refusal) rest n count after is on more = absurd (cc (is))

pub steps_run : (s : State) (steps : List Step) (es : List JournalEntry) → IsLegal s es → AreAccepted steps es
    → run_of steps s ≡ record { accepted = length steps; refusal = None; state = replay s es }
steps_run s [] [] legal made = refl
steps_run s [] (e ∷ es) legal made = absurd made
steps_run s (step ∷ steps) [] legal made = absurd made
steps_run s (step ∷ steps) (e ∷ es) legal made =
    let call = made.0 in
    let answer : Made (seen_of (step_of s step)) ≡ Made (Ok made.1.0) = sym (legal.0 ∙ ap (answer_to s) call) ∙ made.1.1 in
    let rest = steps_run (state_from s e.call) steps es legal.1 made.2 in
    let after : state_from s e.call ≡ state_after s (step_of s step) = ap (state_from s) call in
    go_on s made.1.0 (step_of s step) (run_of steps) (length steps) (length (step ∷ steps)) (replay (state_from s e.call) es) answer (sym (ap (run_of steps) after) ∙ rest) (omega arith)
