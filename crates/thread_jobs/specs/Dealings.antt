-- A journal of steps that were dealt to seats.
use Rattle.std.specs.Prelude.{◌≡◌, ℕ, ◌+◌, ◌%◌, ◌<◌, ◌==◌, if◌then◌else◌, Option, Some, List, [], ◌∷◌, map, All}
use Rattle.machine.specs.State.{State}
use Rattle.machine.specs.declared.step.Step.{Step}
use Rattle.live.specs.declared.journal.Call.{Call}
use Rattle.live.specs.declared.journal.JournalEntry.{JournalEntry}
use Rattle.live.specs.Journal.{IsLegal, step_asked}
use Rattle.thread_jobs.specs.declared.worker.Dealing.{Dealing}

-- the calls of one seat, in order
abbrev pub calls_by : ℕ → List JournalEntry → List Call
calls_by s [] = []
calls_by s (e ∷ es) = if e.seat == s then e.call ∷ calls_by s es else calls_by s es

-- the step of each call, unless it is a look
abbrev pub step_list : List Call → List (Option Step)
step_list calls = map step_asked calls

-- the steps whose number leaves s when divided by t, where the first has number k
abbrev pub dealt_from : ℕ → ℕ → ℕ → List Step → List Step
dealt_from k s t [] = []
dealt_from k s t (step ∷ steps) = if k % t == s then step ∷ dealt_from (k + 1) s t steps else dealt_from (k + 1) s t steps

-- the steps of seat s, of those that are dealt to t seats in turn
abbrev pub dealt : ℕ → ℕ → List Step → List Step
dealt s t steps = dealt_from 0 s t steps

-- A legal journal in which each seat made the steps that it was dealt, in their order, and which has nothing else.
pub record IsDealt (opening : State) (seats : ℕ) (steps : List Step) (journal : List JournalEntry) : Type 0 where
  pub legal : IsLegal opening journal
  pub every : All (λ e. e.seat < seats) journal
  pub calls : (s : ℕ) → s < seats → step_list (calls_by s journal) ≡ map (λ step. Some step) (dealt s seats steps)

-- a journal of a dealing, from this state on
abbrev pub IsJournalOf : Dealing → State → List JournalEntry → Type 0
IsJournalOf dealing opening journal = IsDealt opening dealing.threads dealing.steps.now journal
