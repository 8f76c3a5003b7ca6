-- The whole command: the program is read, and then there is a conversation with a session that begins at its machine's state.
use Rattle.std.specs.Prelude.{◌≡◌, ◌⊎◌, List, [], Result, Ok, Err}
use Rattle.litmus_text.specs.declared.text_lines.LinedObject.{LinedObject}
use Rattle.machine.specs.Objects.{opening}
use Rattle.outcomes.specs.declared.or_no_memory.OrNoMemory.{OrNoMemory}
use Rattle.commands.specs.declared.fault.Device.TheVariants.{Read, Write}
use Rattle.commands.specs.declared.fault.Fault.{Fault}
use Rattle.commands.specs.declared.fault.Fault.TheVariants as faults
use Rattle.commands.specs.declared.fault.Refused.TheVariants as refusals
use Rattle.commands.specs.declared.fault.Stage.TheVariants as stages
use Rattle.commands.specs.declared.status.Status.{Status}
use Rattle.commands.specs.declared.status.Status.TheVariants.{Done}
use Rattle.commands.specs.declared.transfer.ReadFault.{ReadFault}
use Rattle.commands.specs.Faults.{missing, unread_at}
use Rattle.commands.specs.Programs.{lined_work}
use Rattle.commands.specs.Serving.{IsNotReadWhole, IsReadWhole, Sources, Used, after, before}
use Rattle.commands.specs.Works.{Makes}
use Rattle.talks.specs.declared.fault.TalkFault.{TalkFault}
use Rattle.talks.specs.declared.fault.TalkFault.TheVariants as talk_faults
use Rattle.talks.specs.Conversations.{Talks}
use Rattle.talks.specs.Events.{Event}
use Rattle.conversations.specs.Answered.{first_place, partner}

-- the fault of the command, where a conversation broke off
abbrev pub fault_of : TalkFault → Fault
fault_of talk_faults.ReadFailed = faults.Device Read
fault_of talk_faults.WriteFailed = faults.Device Write
fault_of talk_faults.TooLong = faults.Refused refusals.TooLong
fault_of talk_faults.NoMemory = missing stages.Session

-- what the command answers after a conversation
abbrev pub answer_after : Result (Unit {0}) TalkFault → Result Status Fault
answer_after (Ok done) = Ok Done
answer_after (Err fault) = Err (fault_of fault)

-- The program is read whole, and nothing else; or it is not.
abbrev pub ReadsProgram : {P : Type 0} → Used P → Result Sources Fault → Type 0
ReadsProgram program (Ok both) = IsReadWhole (before program) (after program) both.program
ReadsProgram program (Err fault) =
    (why : OrNoMemory ReadFault) × IsNotReadWhole (before program) (after program) why × (fault ≡ unread_at stages.Text why)

-- These bytes, if they were read, say this program, with the lines of its text, or there is a fault.
abbrev pub MakesObject : Result Sources Fault → Result LinedObject Fault → Type 0
MakesObject (Ok both) made = Makes (lined_work both.program) made
MakesObject (Err fault) made = made ≡ Err fault

-- A program is read from a source.
pub record ReadsObject {P : Type 0} (program : Used P) (made : Result LinedObject Fault) : Type 0 where
  pub read : Result Sources Fault
  pub reads : ReadsProgram program read
  pub makes : MakesObject read made

-- There is a conversation, which begins at the opening state of the program's machine.
pub record Answers (lined : LinedObject) (Went : List Event → Type 0) (result : Result Status Fault) : Type 0 where
  pub talk : Result (Unit {0}) TalkFault
  pub talks : Talks (partner lined) Went (first_place (opening lined.object)) talk
  pub is : result ≡ answer_after talk

-- Nothing goes on at the terminal, and this fault is answered.
abbrev pub IsNotBegun : (List Event → Type 0) → Fault → Result Status Fault → Type 0
IsNotBegun Went fault result = Went [] × (result ≡ Err fault)

-- Where a program was read, there is a conversation, unless there is no memory for its machine.
abbrev pub AnswersOn : Result LinedObject Fault → (List Event → Type 0) → Result Status Fault → Type 0
AnswersOn (Ok lined) Went result = Answers lined Went result ⊎ IsNotBegun Went (missing stages.Machine) result
AnswersOn (Err fault) Went result = IsNotBegun Went fault result

-- The program is read, and then there is a conversation at a terminal.
pub record ConversesOn {P : Type 0} (program : Used P) (Went : List Event → Type 0) (result : Result Status Fault) : Type 0 where
  pub object : Result LinedObject Fault
  pub reads : ReadsObject program object
  pub answers : AnswersOn object Went result
