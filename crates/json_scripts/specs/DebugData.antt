-- The report of `debug` as JSON.
use Rattle.std.specs.Prelude.{◌≡◌, ℕ, Bool, true, if◌then◌else◌, Option, None, Some, Result, Ok, Err, List, [], ◌∷◌, ◌++◌, codes, map}
use Rattle.std.specs.List.{flat_map}
use Rattle.lines_layout.specs.Layouts.{NamedLines}
use Rattle.lines_layout.specs.Names.{Text}
use Rattle.litmus_text.specs.declared.text_lines.LinedObject.{LinedObject}
use Rattle.image_reasons.specs.Origins.{origins_of}
use Rattle.images.specs.Images.{images_of, values_of}
use Rattle.pending_images.specs.Candidates.{candidates, count_of}
use Rattle.pending_images.specs.declared.total.Count.{Count}
use Rattle.pending_images.specs.declared.total.Count.TheVariants.{Number, More}
use Rattle.machine.specs.State.{State}
use Rattle.debugger.specs.Pasts.{Past}
use Rattle.debugger.specs.declared.fault.SessionFault.{SessionFault}
use Rattle.debugger.specs.declared.fault.SessionFault.TheVariants.{DoubleId, NoId, TooFar}
use Rattle.debugger.specs.declared.halt.Halt.{Halt}
use Rattle.debugger.specs.declared.halt.Halt.TheVariants as halts
use Rattle.debugger.specs.declared.note.Note.{Note}
use Rattle.debug_scripts.specs.Asked.{Asked}
use Rattle.debug_scripts.specs.DebugPlans.{replies_status, script_replies}
use Rattle.debug_scripts.specs.Replies.{Told, Kept, Went, WentOn, WentBack, Shown, Listed, Valued, Disarmed, Detached, Noted}
use Rattle.commands.specs.declared.fault.Stage.TheVariants as stages
use Rattle.commands.specs.Programs.{lined_work}
use Rattle.commands.specs.Serving.{Command, Report, Sources}
use Rattle.commands.specs.StateTexts.{name_text}
use Rattle.commands.specs.Works.{◌>>=◌, Makes, Work, work}
use Rattle.serde_json.specs.View.{view}
use Rattle.serde_json.specs.declared.value.Value.{Value}
use Rattle.json_texts.specs.Objects.{Tree, header, json_of, list, null, num, nums, obj, or_null, word}
use Rattle.json_texts.specs.ImageData.{candidates_data, images_data, names_data}
use Rattle.json_texts.specs.SourceMaps.{SourceMap}
use Rattle.json_texts.specs.StateData.{refused_data, sited_state}
use Rattle.json_texts.specs.StepData.{seen_data}
use Rattle.json_texts.specs.ValueReports.{value_report}

-- ---- where steps halted

abbrev pub halt_name : Halt → Text
halt_name (halts.Stop id made) = codes "stop"
halt_name (halts.Refused at refusal) = codes "refused"
halt_name (halts.NoMemory at) = codes "no memory"
halt_name halts.End = codes "end"

-- the id of the stop that it is
abbrev pub halt_stop : Halt → Option ℕ
halt_stop (halts.Stop id made) = Some id
halt_stop _ = None

-- the step that was refused
abbrev pub halt_refused : Halt → Tree
halt_refused (halts.Refused at refusal) = refused_data at refusal
halt_refused _ = null

-- the same, and how many steps were made
abbrev pub halt_data : Text → Halt → ℕ → Tree
halt_data kind halt made =
    obj ((codes "kind", word kind) ∷ (codes "halt", word (halt_name halt)) ∷ (codes "made", num made)
    ∷ (codes "stop", or_null num (halt_stop halt)) ∷ (codes "refused", halt_refused halt) ∷ [])

-- ---- what a session refuses

abbrev pub fault_number : SessionFault → Text
fault_number DoubleId = codes "G1"
fault_number NoId = codes "G2"
fault_number TooFar = codes "G3"

abbrev pub fault_name : SessionFault → Text
fault_name DoubleId = codes "DoubleId"
fault_name NoId = codes "NoId"
fault_name TooFar = codes "TooFar"

abbrev pub fault_data : SessionFault → Tree
fault_data fault = obj ((codes "number", word (fault_number fault)) ∷ (codes "name", word (fault_name fault)) ∷ [])

-- the fault, if there is one
abbrev pub fault_if : Result (Unit {0}) SessionFault → Tree
fault_if (Ok done) = null
fault_if (Err fault) = fault_data fault

-- how going back by so many steps went
abbrev pub back_data : ℕ → Result (Unit {0}) SessionFault → Tree
back_data n gone = obj ((codes "kind", word (codes "back")) ∷ (codes "steps", num n) ∷ (codes "fault", fault_if gone) ∷ [])

-- whether there was something of this id, which is taken out
abbrev pub taken_data : Text → ℕ → Bool → Tree
taken_data kind id there =
    obj ((codes "kind", word kind) ∷ (codes "id", num id) ∷ (codes "fault", if there then null else fault_data NoId) ∷ [])

-- ---- what is asked of a state

-- a program with the lines of its text
abbrev pub source_of : LinedObject → SourceMap
source_of lined = record { names = lined.object.layout; lines = lined.lines }

-- the state, with the instructions that its entries are of
abbrev pub shown_data : LinedObject → Past → Tree
shown_data lined p =
    obj ((codes "kind", word (codes "show"))
    ∷ (codes "state", sited_state (source_of lined) (origins_of lined.object p.history) p.state) ∷ [])

-- images, unless there are more candidates than are counted
abbrev pub images_if : Count → List (List ℕ) → Tree
images_if (Number n) images = images_data images
images_if More images = null

abbrev pub listed_data : NamedLines → State → Tree
listed_data names s =
    let count = count_of (candidates s.memory.pending) in
    obj ((codes "kind", word (codes "images")) ∷ (codes "candidates", candidates_data count) ∷ (codes "words", names_data names)
    ∷ (codes "images", images_if count (images_of s)) ∷ [])

-- a word that is given a value
abbrev pub given_data : NamedLines → (ℕ × ℕ) → Tree
given_data names given = obj ((codes "word", word (name_text names given.0)) ∷ (codes "value", num given.1) ∷ [])

abbrev pub valued_data : NamedLines → State → Asked → Tree
valued_data names s asked =
    obj ((codes "kind", word (codes "values")) ∷ (codes "word", word (name_text names asked.word))
    ∷ (codes "given", list (map (given_data names) asked.given)) ∷ (codes "values", nums (values_of s asked.given asked.word)) ∷ [])

-- ---- notes

-- a note: its number, and what the step showed
abbrev pub note_data : NamedLines → Note → Tree
note_data names note = obj ((codes "number", num note.number) ∷ (codes "seen", seen_data names note.seen) ∷ [])

abbrev pub noted_data : NamedLines → ℕ → List Note → Tree
noted_data names id notes = obj ((codes "kind", word (codes "watch")) ∷ (codes "id", num id) ∷ (codes "notes", list (map (note_data names) notes)) ∷ [])

-- ---- the whole

-- what is told, as one object; of a step that is kept nothing is
abbrev pub told_items : LinedObject → Told → List Tree
told_items lined Kept = []
told_items lined (Went halt made) = halt_data (codes "go") halt made ∷ []
told_items lined (WentOn halt made) = halt_data (codes "continue") halt made ∷ []
told_items lined (WentBack n gone) = back_data n gone ∷ []
told_items lined (Shown p) = shown_data lined p ∷ []
told_items lined (Listed s) = listed_data lined.object.layout s ∷ []
told_items lined (Valued s asked) = valued_data lined.object.layout s asked ∷ []
told_items lined (Disarmed id there) = taken_data (codes "disarm") id there ∷ []
told_items lined (Detached id there) = taken_data (codes "detach") id there ∷ []
told_items lined (Noted id notes) = noted_data lined.object.layout id notes ∷ []

-- what a script comes to
abbrev pub replies_data : List Tree → Tree
replies_data replies = obj (header (codes "debug") ++ (codes "replies", list replies) ∷ [])

abbrev pub debug_data : LinedObject → List Told → Tree
debug_data lined told = replies_data (flat_map (told_items lined) told)

-- the same as a report
abbrev pub debug_report : LinedObject → List Told → Report
debug_report lined told = value_report (debug_data lined told) (replies_status told)

abbrev pub replies_report : List Tree → Report
replies_report replies = value_report (replies_data replies) (replies_status [])

-- These values are the JSON of these trees, one by one.
abbrev pub AreJsonOf : List Tree → List Value → Type 0
AreJsonOf trees values = map view values ≡ map json_of trees

-- what a script comes to on a program that was read
abbrev pub debug_on : LinedObject → List ℕ → Work Report
debug_on lined script = do
  told ← script_replies lined.object script
  work stages.Machine (Ok (debug_report lined told))

-- debug --json
abbrev pub debug_work : Sources → Work Report
debug_work both = do
  lined ← lined_work both.program
  debug_on lined both.steps

-- the command on the bytes of its sources
unfoldable pub debug_command : Command
debug_command = record { reads_steps = true; May = λ both made. Makes (debug_work both) made }
