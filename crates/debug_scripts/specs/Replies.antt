-- What a script comes to: what is told of each command, and of each watcher at the end. A report is a print of that.
use Rattle.std.specs.Prelude.{◌≡◌, ℕ, Bool, Result, Ok, Err, List, [], ◌∷◌, ◌++◌, if◌then◌else◌, is_some, length, map, nat_lt, take, drop}
use Rattle.lines_layout.specs.Layouts.{NamedLines}
use Rattle.lines_layout.specs.Names.{Text}
use Rattle.machine.specs.State.{State}
use Rattle.machine.specs.declared.step.Step.{Step}
use Rattle.commands.specs.StateTexts.{state_text}
use Rattle.debugger.specs.Halts.{halt_of, made}
use Rattle.debugger.specs.Marks.{tried}
use Rattle.debugger.specs.Pasts.{Past}
use Rattle.debugger.specs.Sessions.{SessionValue, Watch, after, gone_back, stop_of, watch_of, without_stop, without_watch}
use Rattle.debugger.specs.declared.fault.SessionFault.{SessionFault}
use Rattle.debugger.specs.declared.fault.SessionFault.TheVariants.{TooFar}
use Rattle.debugger.specs.declared.halt.Halt.{Halt}
use Rattle.debugger.specs.declared.note.Note.{Note}
use Rattle.debug_scripts.specs.Ahead.{Ahead, all_ahead, steps_ahead, with_gathered}
use Rattle.debug_scripts.specs.Asked.{Asked}
use Rattle.debug_scripts.specs.DebugReports.{HasShape}
use Rattle.debug_scripts.specs.SessionTexts.{asked_text, back_text, found_text, halt_line, noted_text, taken_line}
use Rattle.debug_scripts.specs.declared.orders.Command.{Command}
use Rattle.debug_scripts.specs.declared.orders.Command.TheVariants.{Gather, Go, Continue, Back, Show, Images, Values, Disarm, Detach}
use Rattle.debug_scripts.specs.declared.reply.Reply.{Reply}
use Rattle.debug_scripts.specs.declared.reply.Reply.TheVariants as says

-- what is told of a command, or of a watcher at the end
pub data Told : Type 0 where
  -- a step is kept for the next go: nothing is written
  Kept : Told
  -- where a go halted, and how many steps it made
  Went : Halt → ℕ → Told
  -- the same of a continue
  WentOn : Halt → ℕ → Told
  -- how going back by so many steps went
  WentBack : ℕ → Result (Unit {0}) SessionFault → Told
  -- what the session has been through, where its state is asked for
  Shown : Past → Told
  -- a state whose images are asked for
  Listed : State → Told
  -- a state of which values are asked, and which
  Valued : State → Asked → Told
  -- whether there was a stop of this id, which is taken out
  Disarmed : ℕ → Bool → Told
  -- the same of a watch
  Detached : ℕ → Bool → Told
  -- the id of a watch, and its notes
  Noted : ℕ → List Note → Told

-- its text
abbrev pub told_text : NamedLines → Told → Text
told_text names Kept = []
told_text names (Went halt made) = halt_line halt
told_text names (WentOn halt made) = halt_line halt
told_text names (WentBack n gone) = back_text n gone
told_text names (Shown p) = state_text names p.state
told_text names (Listed s) = found_text s
told_text names (Valued s asked) = asked_text s asked
told_text names (Disarmed id there) = taken_line there
told_text names (Detached id there) = taken_line there
told_text names (Noted id notes) = noted_text names id notes

-- what a reply of the code tells, where the session has been through this
abbrev pub told_by : Past → Reply → Told
told_by p says.Kept = Kept
told_by p (says.Went halt made) = Went halt made
told_by p (says.WentOn halt made) = WentOn halt made
told_by p (says.WentBack n gone) = WentBack n gone
told_by p says.Shown = Shown p
told_by p says.Listed = Listed p.state
told_by p (says.Valued order) = Valued p.state order.now
told_by p (says.Disarmed id there) = Disarmed id there
told_by p (says.Detached id there) = Detached id there
told_by p (says.Noted id notes) = Noted id notes.now

-- what a command comes to: the session then, the steps that are still to be made, and what is told
pub record Turn : Type 0 where
  pub session : SessionValue
  pub ahead : Ahead
  pub told : Told

abbrev pub turn_to : SessionValue → Ahead → Told → Turn
turn_to v ahead told = record { session = v; ahead = ahead; told = told }

-- steps are made, up to where they halt: that and how many were made is told so
abbrev pub makes : (Halt → ℕ → Told) → SessionValue → List Step → Turn
makes tells v steps =
    let halt = halt_of v steps in
    turn_to (after v (take (made steps halt) steps)) (steps_ahead (drop (tried steps halt) steps) []) (tells halt (made steps halt))

abbrev pub turn : SessionValue → Ahead → Command → Turn
turn v a (Gather step) = turn_to v (with_gathered a step) Kept
turn v a Go = makes Went v a.gathered
turn v a Continue = makes WentOn v (all_ahead a)
turn v a (Back n) =
    if nat_lt (length v.past.history) n then turn_to v a (WentBack n (Err TooFar))
    else turn_to (gone_back v n) a (WentBack n (Ok tt))
turn v a Show = turn_to v a (Shown v.past)
turn v a Images = turn_to v a (Listed v.past.state)
turn v a (Values asked) = turn_to v a (Valued v.past.state asked)
turn v a (Disarm id) = let there = is_some (stop_of v id) in turn_to (if there then without_stop v id else v) a (Disarmed id there)
turn v a (Detach id) = let there = is_some (watch_of v id) in turn_to (if there then without_watch v id else v) a (Detached id there)

-- its machine has the words of its opening state
abbrev pub HasItsWords : SessionValue → Type 0
HasItsWords v = v.past.state.shape ≡ v.past.opening.shape

-- the one session has the words of a layout wherever the other has them
abbrev pub KeepsWords : SessionValue → SessionValue → Type 0
KeepsWords v w = (names : NamedLines) → HasShape names v → HasShape names w

-- where a script is, and all that was told so far
pub record Course : Type 0 where
  pub session : SessionValue
  pub ahead : Ahead
  pub told : List Told

abbrev pub course : SessionValue → Ahead → List Told → Course
course v ahead told = record { session = v; ahead = ahead; told = told }

-- one command more
abbrev pub course_on : Course → Command → Course
course_on c command = let t = turn c.session c.ahead command in course t.session t.ahead (c.told ++ t.told ∷ [])

-- commands, one after another
abbrev pub coursed : Course → List Command → Course
coursed c [] = c
coursed c (command ∷ others) = coursed (course_on c command) others

-- Commands led from one course to another: to this session, and a page tells what was told.
pub record IsCoursed (Tells : List Told → Type 0) (v : SessionValue) (c : Course) : Type 0 where
  pub session : v ≡ c.session
  pub tells : Tells c.told

-- the notes of a watch
abbrev pub noted : Watch → Told
noted w = Noted w.id w.means.notes

-- What the commands of a script come to on a session: what is told of each, in order, and then the notes of each watcher that is still attached.
abbrev pub replies : SessionValue → List Command → List Told
replies v commands = let end = coursed (course v (steps_ahead [] []) []) commands in end.told ++ map noted end.session.watches
