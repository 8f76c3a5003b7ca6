-- A session's answers as text.
use Rattle.std.specs.Prelude.{◌≡◌, ℕ, Bool, Result, Ok, Err, List, [], ◌++◌, length, codes, decimal, if◌then◌else◌, OnOk, String, string_bytes}
use Rattle.std.specs.List.{flat_map}
use Rattle.lines_layout.specs.Layouts.{NamedLines}
use Rattle.machine.specs.RefusalTexts.{refusal_text}
use Rattle.debugger.specs.declared.note.Note.{Note}
use Rattle.debugger.specs.declared.halt.Halt.{Halt}
use Rattle.debugger.specs.declared.halt.Halt.TheVariants.{Stop, Refused, NoMemory, End}
use Rattle.debugger.specs.declared.fault.SessionFault.{SessionFault}
use Rattle.debugger.specs.declared.fault.SessionFault.TheVariants as faults
use Rattle.debugger.specs.FaultTexts.{session_fault_text}
use Rattle.debugger.specs.Sessions.{Watch}
use Rattle.machine.specs.State.{State}
use Rattle.images.specs.Images.{images_of, values_of}
use Rattle.pending_images.specs.Candidates.{candidates, count_of}
use Rattle.pending_images.specs.declared.total.Count.{Count}
use Rattle.pending_images.specs.declared.total.Count.TheVariants.{Number, More}
use Rattle.debug_scripts.specs.Asked.{Asked}
use Rattle.commands.specs.ImageTexts.{candidates_text, images_text}
use Rattle.commands.specs.StateTexts.{end_of_line}
use Rattle.lines_layout.specs.Names.{Text}
use Rattle.commands.specs.SeenTexts.{seen_text}

-- where a go, or a continue, halted; out of memory has no line
abbrev pub halt_line : Halt → Text
halt_line (Stop id after) = codes "stop " ++ decimal id ++ codes " " ++ decimal after ++ end_of_line
halt_line (Refused at refusal) = codes "refused " ++ decimal at ++ codes " " ++ refusal_text refusal ++ end_of_line
halt_line (NoMemory at) = []
halt_line End = codes "end" ++ end_of_line

-- a halt other than out of memory
abbrev pub IsMade : Halt → Type 0
IsMade (Stop id after) = Unit {0}
IsMade (Refused at refusal) = Unit {0}
IsMade (NoMemory at) = ⊥
IsMade End = Unit {0}

-- a fault of a session
abbrev pub fault_line : SessionFault → Text
fault_line fault = session_fault_text fault ++ end_of_line

-- how going back went
abbrev pub back_text : ℕ → Result (Unit {0}) SessionFault → Text
back_text n (Ok done) = codes "back " ++ decimal n ++ end_of_line
back_text n (Err fault) = fault_line fault

-- whether a stop, or a watcher, was taken out
abbrev pub taken_line : Bool → Text
taken_line is_taken = if is_taken then (codes "ok" ++ end_of_line) else fault_line faults.NoId

-- images, unless there are more candidates than are counted
abbrev pub listed_text : Count → List (List ℕ) → Text
listed_text (Number n) images = images_text images
listed_text More images = []

-- how many candidates a state has, and then its images
abbrev pub found_text : State → Text
found_text s =
    let count = count_of (candidates s.memory.pending) in
    candidates_text count ++ listed_text count (images_of s)

-- a value of a word
abbrev pub value_line : ℕ → Text
value_line value = codes "value " ++ decimal value ++ end_of_line

-- values of a word, and how many they are
abbrev pub values_text : List ℕ → Text
values_text values = flat_map value_line values ++ codes "values " ++ decimal (length values) ++ end_of_line

-- the values that are asked of a state
abbrev pub asked_text : State → Asked → Text
asked_text s asked = values_text (values_of s asked.given asked.word)

-- a note: its number, and what the step showed
abbrev pub note_line : NamedLines → Note → Text
note_line names note = codes "  " ++ decimal note.number ++ codes " " ++ seen_text names note.seen ++ end_of_line

-- an id, how many notes there are, and these
abbrev pub noted_text : NamedLines → ℕ → List Note → Text
noted_text names id notes = codes "watch " ++ decimal id ++ codes " " ++ decimal (length notes) ++ end_of_line ++ flat_map (note_line names) notes

-- a watcher with its notes
abbrev pub watch_text : NamedLines → Watch → Text
watch_text names w = noted_text names w.id w.means.notes

-- A call appends so much to a text, where it does not fail.
abbrev pub Writes : {Z E : Type 0} → String Z → Result (Unit {0}) E → String Z → Text → Type 0
Writes old result new more = OnOk result (string_bytes new ≡ string_bytes old ++ more)
