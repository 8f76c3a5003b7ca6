-- The report of a live machine as text.
use Rattle.std.specs.Prelude.{Ok, Err, true, false, List, ◌++◌, length, codes, decimal}
use Rattle.lines_layout.specs.Layouts.{NamedLines}
use Rattle.litmus_text.specs.declared.text_lines.LinedObject.{LinedObject}
use Rattle.machine.specs.State.{State}
use Rattle.machine.specs.RefusalTexts.{refusal_text}
use Rattle.schedule.specs.Written.{written}
use Rattle.commands.specs.StateTexts.{end_of_line, placed_lines, state_text}
use Rattle.lines_layout.specs.Names.{Text}
use Rattle.commands.specs.SeenTexts.{seen_text}
use Rattle.commands.specs.Serving.{Report}
use Rattle.commands.specs.declared.status.Status.TheVariants.{Done}
use Rattle.live.specs.declared.journal.Answer.{Answer}
use Rattle.live.specs.declared.journal.Answer.TheVariants.{Made, Looked}
use Rattle.live.specs.declared.journal.Call.{Call}
use Rattle.live.specs.declared.journal.Call.TheVariants.{Make, Look}
use Rattle.live.specs.declared.journal.JournalEntry.{JournalEntry}

-- what was asked
abbrev pub call_text : Call → Text
call_text (Make step) = written step
call_text (Look cond) = codes "look"

-- what a step showed, or its refusal
abbrev pub answer_text : NamedLines → Answer → Text
answer_text names (Made (Ok seen)) = seen_text names seen
answer_text names (Made (Err refusal)) = refusal_text refusal
answer_text names (Looked true) = codes "true"
answer_text names (Looked false) = codes "false"

-- SEAT STEP: SEEN or SEAT STEP: REFUSAL
abbrev pub call_line : NamedLines → JournalEntry → Text
call_line names e = decimal e.seat ++ codes " " ++ call_text e.call ++ codes ": " ++ answer_text names e.answer

-- how many calls there are, a line for each, beginning with its number, and the state
abbrev pub live_text : NamedLines → List JournalEntry → State → Text
live_text names journal s =
    codes "journal " ++ decimal (length journal) ++ end_of_line ++ placed_lines (codes "") (call_line names) 0 journal ++ state_text names s

-- the same as a report
abbrev pub live_report : LinedObject → List JournalEntry → State → Report
live_report lined journal s = record { text = live_text lined.object.layout journal s; status = Done }
