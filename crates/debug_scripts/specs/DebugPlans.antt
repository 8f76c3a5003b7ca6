-- What a script asks of the machine of a program, and its report.
use Rattle.std.specs.Prelude.{◌≡◌, ℕ, true, Result, Ok, Err, List, [], ◌∷◌, length, map}
use Rattle.lines_layout.specs.Layouts.{NamedLines}
use Rattle.machine.specs.State.{State}
use Rattle.isa.specs.Objects.{Object}
use Rattle.machine.specs.Objects.{opening}
use Rattle.debugger.specs.Notes.{meaning}
use Rattle.debugger.specs.Stops.{Armed, armed}
use Rattle.debugger.specs.Writes.{word_selection}
use Rattle.debugger.specs.Sessions.{Watch, watch}
use Rattle.debug_scripts.specs.declared.orders.StopOrder.{StopOrder}
use Rattle.debug_scripts.specs.declared.orders.WatchOrder.{WatchOrder}
use Rattle.debug_scripts.specs.Scripts.{Script, HasOwnIds, script_work}
use Rattle.debug_scripts.specs.DebugReports.{debug_text, prepared}
use Rattle.debug_scripts.specs.Replies.{Told, replies}
use Rattle.debug_scripts.specs.declared.fault.PlayFault.{PlayFault}
use Rattle.debug_scripts.specs.declared.fault.PlayFault.TheVariants as wants
use Rattle.commands.specs.declared.fault.Fault.{Fault}
use Rattle.commands.specs.declared.fault.Stage.TheVariants as stages
use Rattle.commands.specs.declared.status.Status.{Status}
use Rattle.commands.specs.declared.status.Status.TheVariants.{Done}
use Rattle.commands.specs.Faults.{missing}
use Rattle.commands.specs.Programs.{program_work}
use Rattle.commands.specs.Serving.{Command, IsUntouched, ReadsSources, Report, Sources, Used, WritesOutcome}
use Rattle.commands.specs.Works.{◌>>=◌, Makes, Work, work}

-- the names of the words, the opening state of the machine, and the script
pub record Plan : Type 0 where
  pub layout : NamedLines
  pub machine : State
  pub script : Script

abbrev pub plan : NamedLines → State → Script → Plan
plan layout machine script = record { layout = layout; machine = machine; script = script }

-- The machine has the words of the program, and the ids of the script differ.
pub record IsPlan (p : Plan) : Type 0 where
  pub shape : p.machine.shape ≡ map length p.layout
  pub ids : HasOwnIds p.script

-- the plan of a program and a script
abbrev pub plan_work : List ℕ → List ℕ → Work Plan
plan_work program script = do
  object ← program_work program
  orders ← script_work object.layout script
  work stages.Machine (Ok (plan object.layout (opening object) orders))

-- what the orders of a script arm and attach
abbrev pub stop_ordered : StopOrder → Armed
stop_ordered t = armed t.id t.cond

abbrev pub watch_ordered : WatchOrder → Watch
watch_ordered w = watch w.id (meaning [] (word_selection w.word))

-- what its commands come to: the report is the print of that
abbrev pub plan_replies : Plan → List Told
plan_replies p = replies (prepared p.machine (map stop_ordered p.script.stops) (map watch_ordered p.script.watches)) p.script.commands

-- the status for it, whatever it is, in each form of the report
abbrev pub replies_status : List Told → Status
replies_status told = Done

-- the report of a plan
abbrev pub debug_report : Plan → List ℕ
debug_report p = debug_text p.layout (prepared p.machine (map stop_ordered p.script.stops) (map watch_ordered p.script.watches)) p.script.commands

-- the same with the status for it
abbrev pub played : Plan → Report
played p = record { text = debug_report p; status = replies_status (plan_replies p) }

-- the report that is this text
abbrev pub text_report : List ℕ → Report
text_report text = record { text = text; status = Done }

-- what the commands of a plan come to, with stops and watchers that are at hand
unfoldable pub played_work : Plan → Work (List Told)
played_work p = record { told = Ok (plan_replies p); reached = stages.Machine ∷ stages.Session ∷ [] }

-- the same with the stops and watchers made before: a stop has a copy of its condition
unfoldable pub replies_work : Plan → Work (List Told)
replies_work p = record { told = Ok (plan_replies p); reached = stages.Conditions ∷ stages.Machine ∷ stages.Session ∷ [] }

-- what a script comes to on a program
abbrev pub script_replies : Object → List ℕ → Work (List Told)
script_replies object script = do
  orders ← script_work object.layout script
  made ← work stages.Machine (Ok (plan object.layout (opening object) orders))
  replies_work made

-- What a work found is what a page tells; or there is a fault in its place.
abbrev pub Puts : {P : Type 0} → (P → List Told → Type 0) → Work (List Told) → P → Result (Unit {0}) Fault → Type 0
Puts Tells work page (Ok done) = (told : List Told) × Makes work (Ok told) × Tells page told
Puts Tells work page (Err fault) = Makes work (Err fault)

-- what is missing, where memory was refused to this
abbrev pub play_lack : PlayFault → Fault
play_lack wants.Session = missing stages.Session
play_lack wants.Report = missing stages.Machine

-- a plan is played, with stops and watchers that are at hand
unfoldable pub play_work : Plan → Work Report
play_work p = record { told = Ok (played p); reached = stages.Machine ∷ stages.Session ∷ [] }

-- the same with the stops and watchers made before: a stop has a copy of its condition
unfoldable pub orders_work : Plan → Work Report
orders_work p = record { told = Ok (played p); reached = stages.Conditions ∷ stages.Machine ∷ stages.Session ∷ [] }

-- A plan is made of the bytes of both sources, where they were read whole.
abbrev pub MakesPlan : Result Sources Fault → Result Plan Fault → Type 0
MakesPlan (Ok both) made = Makes (plan_work both.program both.steps) made
MakesPlan (Err fault) made = made ≡ Err fault

-- Program and script are read, each whole, and a plan is made of their bytes.
pub record ReadsPlan {P S : Type 0} (program : Used P) (script : Used S) (made : Result Plan Fault) : Type 0 where
  pub read : Result Sources Fault
  pub reads : ReadsSources true program script read
  pub makes : MakesPlan read made

-- A plan is played, and its report is written.
pub record PlaysPlan {W : Type 0} (p : Plan) (out : Used W) (result : Result Status Fault) : Type 0 where
  pub made : Result Report Fault
  pub makes : Makes (play_work p) made
  pub writes : WritesOutcome out made result

-- A plan that was made is played. If none was made, nothing is written, and its fault is answered.
abbrev pub PlaysIfMade : {W : Type 0} → Result Plan Fault → Used W → Result Status Fault → Type 0
PlaysIfMade (Ok p) out result = PlaysPlan p out result
PlaysIfMade (Err fault) out result = IsUntouched out × (result ≡ Err fault)

-- the command on the bytes of its sources
unfoldable pub debug_command : Command
debug_command = record { reads_steps = true; May = λ both made. Makes (plan_work both.program both.steps >>= orders_work) made }
