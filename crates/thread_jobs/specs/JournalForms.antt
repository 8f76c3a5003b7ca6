-- In which form it is reported what threads did on one machine.
use Rattle.std.specs.Prelude.{◌≡◌, ℕ, List}
use Rattle.litmus_text.specs.declared.text_lines.LinedObject.{LinedObject}
use Rattle.machine.specs.State.{State}
use Rattle.machine.specs.declared.step.Step.{Step}
use Rattle.live.specs.declared.journal.JournalEntry.{JournalEntry}
use Rattle.live.specs.Journal.{replay}
use Rattle.commands.specs.Serving.{Report}
use Rattle.thread_jobs.specs.declared.worker.Dealing.{Dealing}
use Rattle.thread_jobs.specs.Dealings.{IsDealt}

-- the report of a program, of a journal, and of the state that this left
abbrev pub JournalForm : Type 0
JournalForm = LinedObject → List JournalEntry → State → Report

-- a report of these steps, dealt to so many threads: that of some journal of them from a state, and of the state that the journal leaves
abbrev pub IsLiveReport : JournalForm → LinedObject → State → ℕ → List Step → Report → Type 0
IsLiveReport form lined opening threads steps report =
    (journal : List JournalEntry) × IsDealt opening threads steps journal × (report ≡ form lined journal (replay opening journal))

-- the same of a dealing
abbrev pub IsReportOf : JournalForm → Dealing → LinedObject → State → Report → Type 0
IsReportOf form dealing lined opening report = IsLiveReport form lined opening dealing.threads dealing.steps.now report
