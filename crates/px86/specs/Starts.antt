-- What a start of the program does with the words of a command line, and with what lies outside.
use Rattle.std.specs.Prelude.{◌≡◌, ◌≢◌, ◌⊎◌, ◌++◌, ◌∷◌, ⊤, ℕ, Bool, true, false, if◌then◌else◌, List, Option, None, Some, Result, Ok, Err, [], map, max, option_copied}
use Rattle.std.specs.String.{string_bytes}
use Rattle.std.specs.declared.string.String.{String}
use Rattle.commands.specs.declared.jobs.Task.{Task}
use Rattle.commands.specs.declared.jobs.Task.TheVariants.{Do, Schedules, Live, Debug, Check, Ask, Outcomes, Fences, Mend}
use Rattle.clap.specs.Words.{Text, fault_of}
use Rattle.commands.specs.declared.fault.Device.TheVariants as devices
use Rattle.commands.specs.declared.fault.Fault.{Fault}
use Rattle.commands.specs.declared.fault.Fault.TheVariants as faults
use Rattle.commands.specs.declared.fault.Stage.TheVariants as stages
use Rattle.commands.specs.Faults.{missing, read_failed}
use Rattle.commands.specs.declared.status.Status.{Status}
use Rattle.commands.specs.declared.status.Status.TheVariants.{Done}
use Rattle.commands.specs.Devices.{Device, CanCountOneMore}
use Rattle.commands.specs.Serving.{Command, IsUntouched, Report, Serves, Used, WritesOutcome, used}
use Rattle.commands.specs.Statuses.{exit_after, exit_of}
use Rattle.jobs.specs.Answers.{command_of}
use Rattle.thread_jobs.specs.TextReports.{text_journals, text_reports}
use Rattle.thread_jobs.specs.ThreadReports.{live_command, work_command}
use Rattle.debug_scripts.specs.DebugPlans.{debug_command}
use Rattle.conversations.specs.Conversing.{ConversesOn}
use Rattle.jobs.specs.QuestionReports.{ask_command}
use Rattle.jobs.specs.RunCommands.{check_command, outcomes_command}
use Rattle.json_jobs.specs.JsonAnswers.{json_command_of}
use Rattle.json_jobs.specs.QuestionData as json_questions
use Rattle.json_jobs.specs.RunReports as json_runs
use Rattle.json_jobs.specs.JsonForm.{json_reports}
use Rattle.json_jobs.specs.LiveData.{json_journals}
use Rattle.json_scripts.specs.DebugData as json_scripts
use Rattle.mend_jobs.specs.FencesCommand.{fences_command}
use Rattle.mend_jobs.specs.MendCommand.{mend_command}
use Rattle.mend_jobs.specs.TextReports as mend_texts
use Rattle.mend_jobs.specs.JsonReports as mend_data
use Rattle.px86.specs.Commands.{command_line}
use Rattle.px86.specs.CommandLines.{are_several, AsksFor, HasFiles, HasForm, HasMoves, IsDeclinedFor, IsRefusedFor}
use Rattle.px86.specs.declared.request.Declined.{Declined}
use Rattle.px86.specs.declared.request.Declined.TheVariants.{Usage, Shown, NoMemory}
use Rattle.px86.specs.declared.request.Form.{Form}
use Rattle.px86.specs.declared.request.Form.TheVariants.{Lines, Json, Gcc}
use Rattle.px86.specs.declared.request.Input.{Input}
use Rattle.px86.specs.declared.request.Input.TheVariants as inputs
use Rattle.px86.specs.declared.request.Request.{Request}
use Rattle.px86.specs.declared.steps.Steps.{Steps}
use Rattle.px86.specs.declared.steps.Steps.TheVariants.{Standard, File, Nothing}
use Rattle.px86.specs.Worlds.{World}

-- the command of a task whose report is in lines; whether a mend may move a store; the name of the file, where it is one of several
abbrev pub lines_command : Bool → Option Text → Task → Command
lines_command moves named (Do job) = command_of job
lines_command moves named (Schedules job) = work_command text_reports job
lines_command moves named (Live threads) = live_command text_journals threads
lines_command moves named Debug = debug_command
lines_command moves named (Check options) = check_command options
lines_command moves named (Ask options) = ask_command named options
lines_command moves named (Outcomes options) = outcomes_command options
lines_command moves named (Fences options) = fences_command mend_texts.text_reports options
lines_command moves named (Mend options) = mend_command mend_texts.text_reports moves options

-- the command of a task whose report is JSON; that of `asm` and `dis` is none
abbrev pub json_command : Bool → Option Text → Task → Command
json_command moves named (Do job) = json_command_of job
json_command moves named (Schedules job) = work_command json_reports job
json_command moves named (Live threads) = live_command json_journals threads
json_command moves named Debug = json_scripts.debug_command
json_command moves named (Check options) = json_runs.check_command options
json_command moves named (Ask options) = json_questions.ask_command named options
json_command moves named (Outcomes options) = json_runs.outcomes_command options
json_command moves named (Fences options) = fences_command mend_data.json_reports options
json_command moves named (Mend options) = mend_command mend_data.json_reports moves options

-- the command of a task
abbrev pub task_command : Form → Bool → Option Text → Task → Command
task_command Lines moves named task = lines_command moves named task
task_command Json moves named task = json_command moves named task
task_command Gcc moves named task = lines_command moves named task

-- whether steps, or a script, come from the standard input
abbrev pub is_standard : Input → Bool
is_standard inputs.Standard = true
is_standard (inputs.File name) = false
is_standard inputs.Nothing = false
is_standard inputs.Console = true

-- whether lines are answered one by one
abbrev pub is_console : Input → Bool
is_console inputs.Standard = false
is_console (inputs.File name) = false
is_console inputs.Nothing = false
is_console inputs.Console = true

-- whether a request reads the standard input
abbrev pub reads_input : Request → Bool
reads_input request = is_standard request.input

-- how steps are seen, wherever they come from; where there are none, as a device that is at its end
abbrev pub steps_device : {F S : Type 0} → (F → Device) → (S → Device) → Steps F S → Device
steps_device file standard (Standard s) = standard s
steps_device file standard (File f) = file f
steps_device file standard Nothing = record { bytes = Some []; failures = 0 }

-- the failures of steps can be counted for one call more
abbrev pub CanCountSteps : {F S : Type 0} → (F → Device) → (S → Device) → Steps F S → Type 0
CanCountSteps file standard steps = CanCountOneMore (steps_device file standard steps)

-- what a task answers
abbrev pub Answer : Type 0
Answer = Result Status Fault

-- the exit status after an answer
abbrev pub exit_status : Answer → ℕ
exit_status (Ok status) = exit_of status
exit_status (Err fault) = exit_after fault

-- whether it is that a report could not be written
abbrev pub is_unwritten : Answer → Bool
is_unwritten (Err (faults.Device devices.Write)) = true
is_unwritten _ = false

-- the name that a report begins with, where its file is one of several
abbrev pub name_if : Bool → Text → Option Text
name_if several file = if several then Some file else None

-- A fault of reading is answered, and nothing is written.
abbrev pub IsNotBegun : {W : Type 0} → Used W → Answer → Type 0
IsNotBegun out answer = (answer ≡ Err read_failed) × IsUntouched out

module _ {F S C : Type 0} (outside : World F S C) where
  -- The steps, or the script, come from where the words say: from the standard input, from the file of that name, or from
  -- nowhere. Nothing was read of it.
  abbrev pub ComeFrom : Input → Steps F S → Type 0
  ComeFrom inputs.Standard (Standard s) = outside.IsStandard s
  ComeFrom (inputs.File name) (File f) = outside.IsFile name.now f
  ComeFrom inputs.Nothing Nothing = ⊤
  ComeFrom inputs.Console Nothing = ⊤
  ComeFrom _ _ = ⊥

  -- The file was opened, and there was a conversation at the console about its program.
  pub record ConversesOnFile (request : Request) (answer : Answer) : Type 0 where
    pub program : F
    pub program_after : F
    pub console : C
    pub console_after : C
    pub is_file : outside.IsFile request.file.now program
    pub is_console : outside.IsConsole console
    pub converses : ConversesOn (used outside.file program program_after) (outside.went console console_after) answer

  -- The words name a file of the steps, and it cannot be opened.
  abbrev pub LacksSteps : Input → Type 0
  LacksSteps (inputs.File name) = outside.CannotOpen name.now
  LacksSteps _ = ⊥

  -- The file of the program was opened, and that of the steps cannot be.
  abbrev pub LacksOnlySteps : Request → Type 0
  LacksOnlySteps request =
      (program : F) × outside.IsFile request.file.now program × LacksSteps request.input

  -- A file cannot be opened: that of the program; or that one was, and then that of the steps cannot be.
  abbrev pub LacksFile : Request → Type 0
  LacksFile request = outside.CannotOpen request.file.now ⊎ LacksOnlySteps request

module _ {F S C W : Type 0} (outside : World F S C) where
  -- The files were opened, and the command is done on the program that the request names, and on its steps.
  pub record DoesOnFiles (request : Request) (out : Used W) (answer : Answer) : Type 0 where
    pub program : F
    pub program_after : F
    pub steps : Steps F S
    pub steps_after : Steps F S
    pub is_file : outside.IsFile request.file.now program
    pub come_from : ComeFrom outside request.input steps
    pub serves : Serves (task_command request.form request.ways.moves (option_copied request.named) request.task) (used outside.file program program_after)
        (used (steps_device outside.file outside.standard) steps steps_after) out answer

  -- There was a conversation, where the words ask for one, and no report is written; otherwise the command is done.
  abbrev pub DoesAsAsked : Bool → Request → Used W → Answer → Type 0
  DoesAsAsked true request out answer = ConversesOnFile outside request answer × IsUntouched out
  DoesAsAsked false request out answer = DoesOnFiles request out answer

  -- The command is done on its files, or a file cannot be opened.
  abbrev pub DoesByName : Request → Used W → Answer → Type 0
  DoesByName request out answer =
      DoesAsAsked (is_console request.input) request out answer ⊎ (LacksFile outside request × IsNotBegun out answer)

  -- The standard streams of the task are open, and it is done; or one of them is closed. That no file is opened then is the
  -- premise of `Outside::open` and of `Outside::trouble`.
  abbrev pub Does : Request → Used W → Answer → Type 0
  Does request out answer =
      (outside.HasStreams (reads_input request) × DoesByName request out answer)
      ⊎ (outside.LacksStream (reads_input request) × IsNotBegun out answer)

  -- The words ask for a command on this file, which is one of several or is not, with steps from an input; and it was done.
  pub record IsAnswered (words : List Text) (several : Bool) (file : Text) (out : Used W) (answer : Answer) : Type 0 where
    pub request : Request
    pub is_of : request.file.now ≡ file
    pub named : option_copied request.named ≡ name_if several file
    pub asked : AsksFor words request.task request.file.now request.input
    pub formed : HasForm words request.form
    pub moves : HasMoves words request.ways.moves
    pub does : Does request out answer

  -- Files were answered one after another, each on what the one before it left of the output; what is left then, the greatest exit
  -- status, and whether the report of the last could not be written.
  pub data AreAnswered (words : List Text) (several : Bool) (seen : W → Device) (first : W) : List Text → W → ℕ → Bool → Type 0 where
    none : AreAnswered words several seen first [] first 0 false
    one_more : {files : List Text} {old : W} {status : ℕ} (file : Text) (new : W) (answer : Answer) → AreAnswered words several seen first files old status false
        → IsAnswered words several file (used seen old new) answer
        → AreAnswered words several seen first (files ++ file ∷ []) new (max status (exit_status answer)) (is_unwritten answer)

  -- Files were answered in turn, up to one whose report could not be written, if there is one; this is the greatest exit status.
  pub record AreDone (words : List Text) (files : List Text) (out : Used W) (status : ℕ) : Type 0 where
    pub done : List Text
    pub left : List Text
    pub are : done ++ left ≡ files
    pub stopped : Bool
    pub answered : AreAnswered words (are_several files) out.seen out.old done out.new status stopped
    pub all : (left ≡ []) ⊎ (stopped ≡ true)

  -- The parse finds no fault in the words, and they ask for a command on files, one at least. It was done on each in turn.
  pub record IsDone (words : List Text) (out : Used W) (status : ℕ) : Type 0 where
    pub files : List Text
    pub whole : fault_of command_line words ≡ []
    pub named : HasFiles words files
    pub some : files ≢ []
    pub are : AreDone words files out status

-- The text of help or of the version, or no memory for it. (Which text it is, nothing says.)
abbrev pub IsText : Result Report Fault → Type 0
IsText (Ok report) = report.status ≡ Done
IsText (Err fault) = fault ≡ missing stages.Text

-- It is written as a report is: whole, or a write of it fails; and nothing, where there is no memory for it.
pub record Shows {W : Type 0} (out : Used W) (answer : Answer) : Type 0 where
  pub text : Result Report Fault
  pub is : IsText text
  pub writes : WritesOutcome out text answer

-- What is written where no command is to be done, and the exit status: a text is shown, where one is asked for; otherwise
-- nothing is written.
abbrev pub Declines : {W : Type 0} → Declined → Used W → ℕ → Type 0
Declines Usage out status = IsUntouched out × (status ≡ 2)
Declines (Shown error) out status =
    (answer : Answer) × Shows out answer × (status ≡ exit_status answer)
Declines NoMemory out status = IsUntouched out × (status ≡ 4)

-- No command was done: the words ask for none, or memory ran out before. Where the parse finds a fault in the words, which
-- may be that they ask for help, it is of that fault.
pub record IsDeclined {W : Type 0} (words : List Text) (out : Used W) (status : ℕ) : Type 0 where
  pub declined : Declined
  pub why : IsRefusedFor words declined
  pub faulty : fault_of command_line words ≢ [] → IsDeclinedFor words declined
  pub declines : Declines declined out status

-- the texts of words
abbrev pub texts_of : {Z : Type 0} → List (String Z) → List Text
texts_of words = map string_bytes words

-- What the words ask for was done, or no command was begun.
abbrev pub Starts : {F S C W Z : Type 0} → List (String Z) → World F S C → Used W → ℕ → Type 0
Starts words outside out status =
    IsDone outside (texts_of words) out status ⊎ IsDeclined (texts_of words) out status
