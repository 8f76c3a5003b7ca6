-- What is answered to a line, and where that leads.
use Rattle.std.specs.Prelude.{ℕ, ◌-◌, Bool, Option, Some, None, Result, Ok, Err, List, [], ◌∷◌, ◌++◌, codes, decimal, drop, if◌then◌else◌, is_some, ◌||◌, ◌&&◌, false, true, length, min, nat_lt, slice_get}
use Rattle.std.specs.List.{flat_map}
use Rattle.lines_layout.specs.Layouts.{NamedLines}
use Rattle.lines_layout.specs.Names.{Text}
use Rattle.litmus_text.specs.declared.text_lines.LinedObject.{LinedObject}
use Rattle.machine.specs.State.{State}
use Rattle.machine.specs.declared.step.Step.{Step}
use Rattle.conditions.specs.Formulas.{Formula}
use Rattle.schedule.specs.Written.{steps_text}
use Rattle.jobs.specs.NextSteps.{next_steps}
use Rattle.jobs.specs.ImageReports.{set_text}
use Rattle.images.specs.Images.{closed_set_of}
use Rattle.commands.specs.StateTexts.{end_of_line}
use Rattle.explore.specs.Falls.{fall_at}
use Rattle.debugger.specs.Notes.{Meaning, meaning}
use Rattle.debugger.specs.Stops.{armed}
use Rattle.debugger.specs.Writes.{word_selection}
use Rattle.debugger.specs.declared.fault.SessionFault.TheVariants.{DoubleId, TooFar}
use Rattle.debugger.specs.Sessions.{SessionValue, Watch, opened, stop_of, unmade, watch, watch_of, with_stop, with_watch, without_stop, without_watch}
use Rattle.debugger.specs.Values.{session_value}
use Rattle.debug_scripts.specs.Ahead.{Ahead, all_ahead, steps_ahead}
use Rattle.debug_scripts.specs.DebugReports.{HasShape, Stand, follow, stand}
use Rattle.debug_scripts.specs.declared.orders.Command.{Command}
use Rattle.debug_scripts.specs.declared.orders.Command.TheVariants as commands
use Rattle.debug_scripts.specs.SessionTexts.{back_text, fault_line, taken_line, watch_text}
use Rattle.talks.specs.Conversations.{Partner}
use Rattle.conversations.specs.declared.asked.Asked.{Asked}
use Rattle.conversations.specs.declared.asked.Asked.TheVariants as asks
use Rattle.conversations.specs.declared.asked.Order.{Order}
use Rattle.conversations.specs.declared.asked.Order.TheVariants as orders
use Rattle.conversations.specs.declared.declaration.Kind.TheVariants as kinds
use Rattle.conversations.specs.declared.line_fault.LineFault.{LineFault}
use Rattle.conversations.specs.declared.line_fault.LineFault.TheVariants.{BadLine}
use Rattle.conversations.specs.declared.moment.Moment.{Moment}
use Rattle.conversations.specs.declared.moment.Moment.TheVariants as moments
use Rattle.debugger.specs.declared.session.Session.{Session}
use Rattle.conversations.specs.declared.desk.Desk.{Desk}
use Rattle.conversations.specs.Asking.{asked_of, is_word}
use Rattle.conversations.specs.Breaks.{has_break, made_text, may_come, session_made, tried_of}
use Rattle.conversations.specs.Changed.{changed_text}
use Rattle.conversations.specs.Checking.{Found, IsFound, ahead_found, found_text}
use Rattle.conversations.specs.Desks.{Declaration, declaration, declared_after, info_text, without_all}
use Rattle.conversations.specs.Eager.{is_met, most_steps, runs_of, steps_to, steps_until}
use Rattle.conversations.specs.declared.eager.Aim.TheVariants.{Nowhere}
use Rattle.conversations.specs.HelpTexts.{help_text, hint_text, row_line}
use Rattle.conversations.specs.Imaged.{all_of, broken_of, set_of, why_of}
use Rattle.conversations.specs.LineFaults.{line_fault_text}
use Rattle.conversations.specs.Listed.{list_text}
use Rattle.conversations.specs.Printed.{next_text, register_text, word_text}
use Rattle.conversations.specs.Reversing.{reversed}

-- where a conversation is: the session, the steps that are still to be made, and what declared the stops, watches and breaks that there are
pub record Place : Type 0 where
  pub session : SessionValue
  pub ahead : Ahead
  pub declared : List Declaration

abbrev pub place : SessionValue → Ahead → List Declaration → Place
place session ahead declared = record { session = session; ahead = ahead; declared = declared }

-- another session in the place of the one
abbrev pub with_session : Place → SessionValue → Place
with_session p session = place session p.ahead p.declared

-- where it begins
abbrev pub first_place : State → Place
first_place s = place (opened s) (steps_ahead [] []) []

-- where it is, by the session that is talked with, and what is kept beside it
abbrev pub place_by : {I J : Type 0} {V : I → Type 0} {W : J → Type 0} {G : _} → (((j : J) × W j) → Meaning) → Session I J V W G → Desk → Place
place_by means s desk = place (session_value means s) desk.ahead desk.declared.items

-- a place, and what is answered
pub record Answer : Type 0 where
  pub place : Place
  pub text : Text

abbrev pub answer : Place → Text → Answer
answer p text = record { place = p; text = text }

-- what a script wrote, and where it stands then
abbrev pub answer_by : Stand → List Declaration → Answer
answer_by s declared = answer (place s.session s.ahead declared) s.text

-- steps are made by themselves, up to where they halt: the steps ahead stay
abbrev pub made_at : LinedObject → Place → List Step → Answer
made_at lined p steps = answer (with_session p (session_made lined p.declared p.session steps)) (made_text lined p.declared p.session steps)

-- steps that were ahead are made, up to where they halt: those behind the last that was tried are ahead then
abbrev pub gone_at : LinedObject → Place → List Step → Answer
gone_at lined p steps =
    answer (place (session_made lined p.declared p.session steps) (steps_ahead (drop (tried_of lined p.declared p.session steps) steps) []) p.declared)
    (made_text lined p.declared p.session steps)

-- a command of a script does and writes what it does and writes there
abbrev pub followed_at : LinedObject → Place → Command → Answer
followed_at lined p command = answer_by (follow lined.object.layout (stand p.session p.ahead []) command) (declared_after command p.declared)

-- a command that neither gathers nor makes steps
abbrev pub is_beside_steps : Command → Bool
is_beside_steps (commands.Gather step) = false
is_beside_steps commands.Go = false
is_beside_steps commands.Continue = false
is_beside_steps (commands.Back n) = true
is_beside_steps commands.Show = true
is_beside_steps commands.Images = true
is_beside_steps (commands.Values asked) = true
is_beside_steps (commands.Disarm id) = true
is_beside_steps (commands.Detach id) = true

-- the same here, where breaks may halt the steps that it makes
abbrev pub scripted_at : LinedObject → Place → Command → Answer
scripted_at lined p (commands.Gather step) = followed_at lined p (commands.Gather step)
scripted_at lined p commands.Go = gone_at lined p p.ahead.gathered
scripted_at lined p commands.Continue = gone_at lined p (all_ahead p.ahead)
scripted_at lined p (commands.Back n) = followed_at lined p (commands.Back n)
scripted_at lined p commands.Show = followed_at lined p commands.Show
scripted_at lined p commands.Images = followed_at lined p commands.Images
scripted_at lined p (commands.Values asked) = followed_at lined p (commands.Values asked)
scripted_at lined p (commands.Disarm id) = followed_at lined p (commands.Disarm id)
scripted_at lined p (commands.Detach id) = followed_at lined p (commands.Detach id)

-- there is no step of this number
abbrev pub no_step_line : ℕ → Text
no_step_line n = codes "no step " ++ decimal n ++ end_of_line

-- the step of a number is made, if there is one; otherwise all stays
abbrev pub picked_at : LinedObject → Place → ℕ → Option Step → Answer
picked_at lined p n (Some step) = made_at lined p (step ∷ [])
picked_at lined p n None = answer p (no_step_line n)

-- What leaves an image persists, and then there is a crash; a stop or a break may come before. Where the image is none of the state's, that is answered, and all stays
abbrev pub crashed_at : LinedObject → Place → Option (List ℕ) → Answer
crashed_at lined p (Some places) = made_at lined p (fall_at p.session.past.state.memory.pending places)
crashed_at lined p None = answer p (set_text None)

-- the one session has the words of a layout wherever the other has them
abbrev pub KeepsShape : SessionValue → SessionValue → Type 0
KeepsShape v w = (names : NamedLines) → HasShape names v → HasShape names w

-- why a line asks nothing, and what may stand there
abbrev pub bad_text : List ℕ → LineFault → Text
bad_text line fault = line_fault_text fault ++ end_of_line ++ hint_text line

-- A stop is armed, and nothing is answered, as a script writes nothing for it. Where its id is taken, that is answered, and all stays.
abbrev pub armed_at : Place → List ℕ → ℕ → Formula → Answer
armed_at p line id cond =
    if is_some (stop_of p.session id) then answer p (fault_line DoubleId)
    else answer (place (with_stop p.session (armed id cond)) p.ahead (p.declared ++ declaration kinds.Stop id None line ∷ [])) []

-- where a watch of a word halts steps, if it does: where it notes them
abbrev pub halting : Bool → ℕ → Option Moment
halting halts word = if halts then Some (moments.Write word) else None

-- the same of a watch that is attached, which may halt steps
abbrev pub attached_at : Place → List ℕ → Watch → Option Moment → Answer
attached_at p line w halts =
    if is_some (watch_of p.session w.id) then answer p (fault_line DoubleId)
    else answer (place (with_watch p.session w) p.ahead (p.declared ++ declaration kinds.Watch w.id halts line ∷ [])) []

-- the same of a watch of a word; one that halts is a break of its id, too
abbrev pub watched_at : Place → List ℕ → ℕ → ℕ → Bool → Answer
watched_at p line id word halts =
    if halts && has_break p.declared id then answer p (fault_line DoubleId)
    else attached_at p line (watch id (meaning [] (word_selection word))) (halting halts word)

-- The same of a break. Where no instruction stands on its line, it is a wrong line, and all stays.
abbrev pub broken_at : LinedObject → Place → List ℕ → ℕ → Moment → Answer
broken_at lined p line id moment =
    if may_come lined moment then (
    if has_break p.declared id then answer p (fault_line DoubleId)
    else answer (place p.session p.ahead (p.declared ++ declaration kinds.Break id (Some moment) line ∷ [])) []
    ) else answer p (bad_text line BadLine)

-- the session without the stop of an id, if it has one
abbrev pub unarmed : SessionValue → ℕ → SessionValue
unarmed v id = if is_some (stop_of v id) then without_stop v id else v

-- and without the watch of an id
abbrev pub unwatched : SessionValue → ℕ → SessionValue
unwatched v id = if is_some (watch_of v id) then without_watch v id else v

-- the stop of an id is taken out, the watch of it, and the break of it, whichever there is; or there is none, and all stays
abbrev pub deleted_at : Place → ℕ → Answer
deleted_at p id =
    answer (place (unwatched (unarmed p.session id) id) p.ahead (without_all id p.declared))
    (taken_line ((is_some (stop_of p.session id) || is_some (watch_of (unarmed p.session id) id)) || has_break p.declared id))

-- the last n steps are taken back, and the notes of these; or there are not so many, and all stays
abbrev pub unmade_at : Place → ℕ → Answer
unmade_at p n =
    if nat_lt (length p.session.past.history) n then answer p (back_text n (Err TooFar))
    else answer (with_session p (unmade p.session n)) (back_text n (Ok tt))

-- all steps but the first n are taken back; or there are fewer, and all stays
abbrev pub gone_to : Place → ℕ → Answer
gone_to p n =
    if nat_lt (length p.session.past.history) n then answer p (fault_line TooFar)
    else unmade_at p (length p.session.past.history - n)

-- steps are taken back up to the last state behind in which a stop's condition holds, or to the beginning, and it is answered how many
abbrev pub reversed_at : Place → Answer
reversed_at p =
    let v = reversed (length p.session.past.history) p.session in
    answer (with_session p v) (back_text (length p.session.past.history - length v.past.history) (Ok tt))

-- a step is made by itself: it is ahead no longer
abbrev pub walked_by : LinedObject → Place → Option Step → Answer
walked_by lined p (Some step) =
    let a = made_at lined p (step ∷ []) in
    answer (place a.place.session (steps_ahead (drop 1 (all_ahead p.ahead)) []) a.place.declared) a.text
walked_by lined p None = answer p (codes "no step ahead" ++ end_of_line)

-- the first of the steps ahead, if there is one, is made so
abbrev pub walked_at : LinedObject → Place → Answer
walked_at lined p = walked_by lined p (slice_get (all_ahead p.ahead) 0)

-- what was found of all runs is told, and the steps of a run that fails are those ahead
abbrev pub checked_at : Place → Found → Answer
checked_at p found = answer (place p.session (ahead_found p.ahead found) p.declared) (found_text found)

-- The answer to an order that a line asks. What a command of a script does and writes, it does and writes here, unless a break halts it. The notes of watches are those that
-- `debug` writes at its end.
abbrev pub ordered : LinedObject → Place → List ℕ → Order → Answer
ordered lined p line orders.Nothing = answer p []
ordered lined p line (orders.Script command) = scripted_at lined p command
ordered lined p line (orders.Make step) = made_at lined p (step ∷ [])
ordered lined p line orders.Walk = walked_at lined p
ordered lined p line (orders.Pick n) = picked_at lined p n (slice_get (next_steps false p.session.past.state) n)
ordered lined p line (orders.Finish processor) = made_at lined p (runs_of processor)
ordered lined p line (orders.Run n) = made_at lined p (steps_to (is_met Nowhere) (min n most_steps) p.session.past.state)
ordered lined p line (orders.Until processor n) = made_at lined p (steps_until processor n p.session.past.state)
ordered lined p line (orders.Undo n) = unmade_at p n
ordered lined p line (orders.Goto n) = gone_to p n
ordered lined p line orders.Reverse = reversed_at p
ordered lined p line (orders.All cond) = answer p (all_of p.session.past.state cond)
ordered lined p line (orders.Broken cond) = answer p (broken_of p.session.past.state cond)
ordered lined p line (orders.Set image) = answer p (set_of p.session.past.state image)
ordered lined p line (orders.Why image) = answer p (why_of lined p.session.past.history image)
ordered lined p line (orders.CrashTo image) = crashed_at lined p (closed_set_of p.session.past.state image)
ordered lined p line orders.Info = answer p (info_text p.declared)
ordered lined p line (orders.Delete id) = deleted_at p id
ordered lined p line (orders.Break id moment) = broken_at lined p line id moment
ordered lined p line orders.Changed = answer p (changed_text lined p.session.past.history p.session.past.state)
ordered lined p line orders.Ahead = answer p (steps_text (all_ahead p.ahead))
ordered lined p line orders.List = answer p (list_text lined p.session.past.state)
ordered lined p line orders.Next = answer p (next_text lined.object.layout p.session.past.state)
ordered lined p line (orders.Word word) = answer p (word_text lined.object.layout p.session.past.state word)
ordered lined p line (orders.Register processor r) = answer p (register_text p.session.past.state processor r)
ordered lined p line orders.Notes = answer p (flat_map (watch_text lined.object.layout) p.session.watches)
ordered lined p line orders.History = answer p (steps_text p.session.past.history)
ordered lined p line orders.Help = answer p help_text
ordered lined p line (orders.Row word) = answer p (row_line word)
ordered lined p line orders.Quit = answer p []

-- The answer to a line that asks this, by what was found for it, where it asks of all runs. A line that asks nothing is answered why, and what may stand there, and leaves everything
-- as it is.
abbrev pub answered : LinedObject → Place → List ℕ → Result Asked LineFault → Found → Answer
answered lined p line (Ok (asks.Stop id cond)) found = armed_at p line id cond
answered lined p line (Ok (asks.Watch order halts)) found = watched_at p line order.id order.word halts
answered lined p line (Ok (asks.Check cond)) found = checked_at p found
answered lined p line (Ok (asks.Order order)) found = ordered lined p line order
answered lined p line (Err fault) found = answer p (bad_text line fault)

-- the answer to a line
abbrev pub answer_to : LinedObject → Place → List ℕ → Found → Answer
answer_to lined p line found = answered lined p line (asked_of lined.object.layout line) found

-- What may be found for a line that asks this: of all runs what is right of them, and of anything else nothing is looked for.
abbrev pub MayFind : LinedObject → Place → Result Asked LineFault → Found → Type 0
MayFind lined p (Ok (asks.Stop id cond)) found = Unit {0}
MayFind lined p (Ok (asks.Watch order halts)) found = Unit {0}
MayFind lined p (Ok (asks.Check cond)) found = IsFound lined p.session.past.history cond found
MayFind lined p (Ok (asks.Order order)) found = Unit {0}
MayFind lined p (Err fault) found = Unit {0}

-- the debugger, as the one who is talked with
abbrev pub partner : LinedObject → Partner Place Found
partner lined = record {
  prompt = codes "px86> ";
  MayFind = λ p line found. MayFind lined p (asked_of lined.object.layout line) found;
  reply = λ p line found. (answer_to lined p line found).text;
  next = λ p line found. (answer_to lined p line found).place;
  is_last = λ line. is_word line (codes "quit");
}
