-- The report of a script.
use Rattle.std.specs.Prelude.{◌≡◌, ℕ, List, [], ◌∷◌, ◌++◌, length, map, take, drop, nat_lt, if◌then◌else◌, is_some, Ok, Err}
use Rattle.std.specs.List.{flat_map, remove}
use Rattle.lines_layout.specs.Layouts.{NamedLines}
use Rattle.machine.specs.State.{State}
use Rattle.machine.specs.declared.step.Step.{Step}
use Rattle.debugger.specs.Marks.{tried}
use Rattle.debugger.specs.Stops.{Armed}
use Rattle.debugger.specs.declared.fault.SessionFault.TheVariants.{TooFar}
use Rattle.debugger.specs.Sessions.{SessionValue, Watch, opened, with_stop, with_watch, after, gone_back, stop_of, watch_of, without_stop, without_watch}
use Rattle.debugger.specs.Halts.{halt_of, made}
use Rattle.debugger.specs.declared.halt.Halt.{Halt}
use Rattle.debug_scripts.specs.declared.orders.Command.{Command}
use Rattle.debug_scripts.specs.declared.orders.Command.TheVariants.{Gather, Go, Continue, Back, Show, Images, Values, Disarm, Detach}
use Rattle.commands.specs.StateTexts.{state_text}
use Rattle.lines_layout.specs.Names.{Text}
use Rattle.debug_scripts.specs.Ahead.{Ahead, all_ahead, steps_ahead}
use Rattle.debug_scripts.specs.SessionTexts.{asked_text, back_text, found_text, halt_line, taken_line, watch_text}

-- where a script is: the session, the steps that are still to be made, and what is written so far
pub record Stand : Type 0 where
  pub session : SessionValue
  pub ahead : Ahead
  pub text : Text

abbrev pub stand : SessionValue → Ahead → Text → Stand
stand session ahead text = record { session = session; ahead = ahead; text = text }

-- Steps are made, up to where they halt. Those after the last that was made, or refused, are the rest then.
abbrev pub make_on : Stand → List Step → Stand
make_on s steps =
    let halt = halt_of s.session steps in
    stand (after s.session (take (made steps halt) steps)) (steps_ahead (drop (tried steps halt) steps) []) (s.text ++ halt_line halt)

-- where a script would lead, were all steps ahead of it made
abbrev pub leads_to : Stand → SessionValue
leads_to s = after s.session (all_ahead s.ahead)

-- what a command does; go forgets the rest that was left before it
abbrev pub follow : NamedLines → Stand → Command → Stand
follow names s (Gather step) = stand s.session (steps_ahead s.ahead.rest (s.ahead.gathered ++ step ∷ [])) s.text
follow names s Go = make_on s s.ahead.gathered
follow names s Continue = make_on s (all_ahead s.ahead)
follow names s (Back n) =
    if nat_lt (length s.session.past.history) n then stand s.session s.ahead (s.text ++ back_text n (Err TooFar))
    else stand (gone_back s.session n) s.ahead (s.text ++ back_text n (Ok tt))
follow names s Show = stand s.session s.ahead (s.text ++ state_text names s.session.past.state)
follow names s Images = stand s.session s.ahead (s.text ++ found_text s.session.past.state)
follow names s (Values asked) = stand s.session s.ahead (s.text ++ asked_text s.session.past.state asked)
follow names s (Disarm id) =
    let there = is_some (stop_of s.session id) in
    stand (if there then without_stop s.session id else s.session) s.ahead (s.text ++ taken_line there)
follow names s (Detach id) =
    let there = is_some (watch_of s.session id) in
    stand (if there then without_watch s.session id else s.session) s.ahead (s.text ++ taken_line there)

-- a stand without the steps that were left, but with those gathered since
abbrev pub without_rest : Stand → Stand
without_rest s = stand s.session (steps_ahead [] s.ahead.gathered) s.text

-- of every stand whose steps ahead halt so
abbrev pub WhereHalted : Halt → (NamedLines → Stand → Type 0) → Type 0
WhereHalted halt Holds = (names : NamedLines) (s : Stand) → halt_of s.session (all_ahead s.ahead) ≡ halt → Holds names s

-- what a `continue` leaves leads where all steps led that were ahead of it
abbrev pub LosesNoStep : NamedLines → Stand → Type 0
LosesNoStep names s = leads_to (follow names s Continue) ≡ leads_to s

-- the same but for the step at place n, which is lost
abbrev pub LosesStep : ℕ → NamedLines → Stand → Type 0
LosesStep n names s = leads_to (follow names s Continue) ≡ after s.session (remove (all_ahead s.ahead) n)

-- commands, one after another
abbrev pub followed : NamedLines → Stand → List Command → Stand
followed names s [] = s
followed names s (command ∷ others) = followed names (follow names s command) others

-- the report of commands on a session: what they write, and then the notes of each watcher that is still attached
abbrev pub debug_text : NamedLines → SessionValue → List Command → Text
debug_text names v commands =
    let end = followed names (stand v (steps_ahead [] []) []) commands in
    end.text ++ flat_map (watch_text names) end.session.watches

-- The session's machine has the words of the layout, now and in its opening state.
pub record HasShape (names : NamedLines) (v : SessionValue) : Type 0 where
  pub now : v.past.state.shape ≡ map length names
  pub opening : v.past.opening.shape ≡ map length names

-- a session with stops, armed one after another
abbrev pub with_stops : SessionValue → List Armed → SessionValue
with_stops v [] = v
with_stops v (stop ∷ others) = with_stops (with_stop v stop) others

-- a session with watchers, attached one after another
abbrev pub with_watches : SessionValue → List Watch → SessionValue
with_watches v [] = v
with_watches v (watch ∷ others) = with_watches (with_watch v watch) others

-- a session that begins at a state, with stops and watchers
abbrev pub prepared : State → List Armed → List Watch → SessionValue
prepared s stops watches = with_watches (with_stops (opened s) stops) watches
