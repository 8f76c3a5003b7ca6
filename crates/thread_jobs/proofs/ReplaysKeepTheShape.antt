-- A journal's replay keeps the shape.
use Rattle.std.proofs.Common.{◌≡◌, List, [], ◌∷◌, Result, Ok, Err, refl, ◌∙◌}
use Rattle.machine.specs.State.{State}
use Rattle.machine.specs.Steps.{step_of}
use Rattle.machine.specs.declared.step.Step.{Step}
use Rattle.machine.specs.declared.step.Seen.{Seen}
use Rattle.machine.specs.declared.refusal.Refusal.{Refusal}
use Rattle.machine.proofs.RunIsAPrefix.{step_shape}
use Rattle.live.specs.declared.journal.Call.{Call}
use Rattle.live.specs.declared.journal.Call.TheVariants.{Make, Look}
use Rattle.live.specs.declared.journal.JournalEntry.{JournalEntry}
use Rattle.live.specs.Journal.{replay, state_after, state_from}

after_step : (s : State) (step : Step) (res : Result (Seen × State) Refusal) → step_of s step ≡ res → (state_after s res).shape ≡ s.shape
after_step s step (Ok done) is = step_shape s done.1 step done.0 is
after_step s step (Err refusal) is = refl

after_call : (s : State) (call : Call) → (state_from s call).shape ≡ s.shape
after_call s (Make step) = after_step s step (step_of s step) refl
after_call s (Look cond) = refl

pub replay_shape : (s : State) (es : List JournalEntry) → (replay s es).shape ≡ s.shape
replay_shape s [] = refl
replay_shape s (e ∷ es) = replay_shape (state_from s e.call) es ∙ after_call s e.call
