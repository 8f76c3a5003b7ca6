-- Journals of calls, what makes one legal, and when a receipt is in one.
use Rattle.std.specs.Prelude.{◌≡◌, ℕ, List, [], ◌∷◌, ◌++◌, length, Option, Some, None, slice_get, Result, Ok, Err}
use Rattle.std.specs.Option.{option_map}
use Rattle.machine.specs.State.{State}
use Rattle.machine.specs.Steps.{End, step_of}
use Rattle.machine.specs.declared.step.Step.{Step}
use Rattle.machine.specs.declared.step.Seen.{Seen}
use Rattle.machine.specs.declared.refusal.Refusal.{Refusal}
use Rattle.images.specs.Truth.{holds_in}
use Rattle.live.specs.declared.journal.Call.{Call}
use Rattle.live.specs.declared.journal.Call.TheVariants.{Make, Look}
use Rattle.live.specs.declared.journal.Answer.{Answer}
use Rattle.live.specs.declared.journal.Answer.TheVariants.{Made, Looked}
use Rattle.live.specs.declared.journal.JournalEntry.{JournalEntry}
use Rattle.live.specs.declared.journal.Receipt.{Receipt}

-- the machine's state, and the calls so far
pub record History : Type 0 where
  pub state : State
  pub journal : List JournalEntry

abbrev pub entry : ℕ → Call → Answer → JournalEntry
entry seat call answer = record { seat = seat; call = call; answer = answer }

-- what a step shows, or its refusal
abbrev pub seen_of : Result (Seen × State) Refusal → Result Seen Refusal
seen_of (Ok done) = Ok done.0
seen_of (Err refusal) = Err refusal

-- the state that a step leaves; a refused one leaves it as it was
abbrev pub state_after : State → Result (Seen × State) Refusal → State
state_after s (Ok done) = done.1
state_after s (Err refusal) = s

-- what a call is answered in a state
abbrev pub answer_to : State → Call → Answer
answer_to s (Make step) = Made (seen_of (step_of s step))
answer_to s (Look cond) = Looked (holds_in s cond)

-- the state that a call leaves; a look leaves it as it was
abbrev pub state_from : State → Call → State
state_from s (Make step) = state_after s (step_of s step)
state_from s (Look cond) = s

-- the state that the calls leave, one after another
abbrev pub replay : State → List JournalEntry → State
replay s [] = s
replay s (e ∷ es) = replay (state_from s e.call) es

-- each call was answered as in the state that the calls before it leave
abbrev pub IsLegal : State → List JournalEntry → Type 0
IsLegal s [] = Unit {0}
IsLegal s (e ∷ es) = (e.answer ≡ answer_to s e.call) × IsLegal (state_from s e.call) es

-- the journal is legal from a state, and its replay leads to another
abbrev pub LeadsTo : State → List JournalEntry → State → Type 0
LeadsTo opening es s = IsLegal opening es × (s ≡ replay opening es)

-- the call of a seat is the one entry more, with the answer of its receipt
abbrev pub Records : History → History → ℕ → Call → Receipt → Type 0
Records old new seat call r = new.journal ≡ old.journal ++ entry seat call r.answer ∷ []

-- the calls are these steps, and the machine accepted each
abbrev pub AreAccepted : List Step → List JournalEntry → Type 0
AreAccepted [] [] = Unit {0}
AreAccepted [] (e ∷ es) = ⊥
AreAccepted (step ∷ steps) [] = ⊥
AreAccepted (step ∷ steps) (e ∷ es) = (e.call ≡ Make step) × ((seen : Seen) × (e.answer ≡ Made (Ok seen))) × AreAccepted steps es

-- the step of a call, unless it is a look
abbrev pub step_asked : Call → Option Step
step_asked (Make step) = Some step
step_asked (Look cond) = None

-- an entry in the form of a receipt
abbrev pub receipt_of : ℕ → JournalEntry → Receipt
receipt_of n e = record { number = n; seat = e.seat; step = step_asked e.call; answer = e.answer }

-- the entry of a number in the form of a receipt, where the journal is that long
abbrev pub shown_at : List JournalEntry → ℕ → Option Receipt
shown_at es n = option_map (receipt_of n) (slice_get es n)

-- the receipt agrees with the entry of its number
abbrev pub Stands : List JournalEntry → Receipt → Type 0
Stands es r = shown_at es r.number ≡ Some r

-- a state of no processors and no words
abbrev pub empty_state : State
empty_state = record { turns = 0; crashes = 0; shape = []; processors = []; memory = record { pending = []; persisted = [] } }

-- the end of steps that were all accepted
abbrev pub whole_end : List Step → State → End
whole_end steps s = record { accepted = length steps; refusal = None; state = s }
