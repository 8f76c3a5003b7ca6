-- The report of `live` as JSON.
use Rattle.std.specs.Prelude.{ℕ, ◌+◌, Ok, Err, List, [], ◌∷◌, ◌++◌, codes}
use Rattle.lines_layout.specs.Layouts.{NamedLines}
use Rattle.litmus_text.specs.declared.text_lines.LinedObject.{LinedObject}
use Rattle.machine.specs.State.{State}
use Rattle.live.specs.declared.journal.Answer.{Answer}
use Rattle.live.specs.declared.journal.Answer.TheVariants.{Made, Looked}
use Rattle.live.specs.declared.journal.Call.{Call}
use Rattle.live.specs.declared.journal.Call.TheVariants.{Make, Look}
use Rattle.live.specs.declared.journal.JournalEntry.{JournalEntry}
use Rattle.commands.specs.declared.status.Status.TheVariants.{Done}
use Rattle.commands.specs.Serving.{Report}
use Rattle.thread_jobs.specs.JournalForms.{JournalForm}
use Rattle.json_texts.specs.Objects.{Field, Tree, boolean, header, list, null, num, obj, word}
use Rattle.json_texts.specs.StateData.{state_data}
use Rattle.json_texts.specs.StepData.{step_data}
use Rattle.json_texts.specs.ValueReports.{value_report}
use Rattle.json_jobs.specs.JsonReports.{source_of}
use Rattle.json_jobs.specs.StepReports.{refused_fields, seen_fields}

-- what was asked
abbrev pub call_data : Call → Tree
call_data (Make step) = step_data step
call_data (Look cond) = word (codes "look")

-- what a step showed, or its refusal with the number of its entry; or whether a condition held, which `live` does not ask
abbrev pub answer_fields : NamedLines → ℕ → Answer → List Field
answer_fields names at (Made (Ok seen)) = seen_fields names seen
answer_fields names at (Made (Err refusal)) = refused_fields at refusal
answer_fields names at (Looked held) = (codes "seen", boolean held) ∷ (codes "refused", null) ∷ []

-- the entry of this number: the seat, the step, and what came of it
abbrev pub entry_data : NamedLines → ℕ → JournalEntry → Tree
entry_data names at e = obj ((codes "seat", num e.seat) ∷ (codes "step", call_data e.call) ∷ answer_fields names at e.answer)

-- entries, of which the first has this number
abbrev pub entries_from : NamedLines → ℕ → List JournalEntry → List Tree
entries_from names at [] = []
entries_from names at (e ∷ later) = entry_data names at e ∷ entries_from names (at + 1) later

-- the entries of a journal, and the state that it left
abbrev pub journal_data : LinedObject → List JournalEntry → State → Tree
journal_data lined journal s =
    obj (header (codes "live") ++ (codes "journal", list (entries_from lined.object.layout 0 journal))
    ∷ (codes "state", state_data (source_of lined.object lined.lines) s) ∷ [])

-- the same as a report
abbrev pub journal_report : LinedObject → List JournalEntry → State → Report
journal_report lined journal s = value_report (journal_data lined journal s) Done

-- the form
abbrev pub json_journals : JournalForm
json_journals = journal_report
