-- Breaks: where steps halt that are made, beside stops and refusals. A break is about one accepted step: the state before it, what it showed, and the state after it.
use Rattle.std.specs.Prelude.{ℕ, ◌+◌, ◌==◌, Bool, true, false, not, ◌&&◌, ◌||◌, is_some, Option, Some, None, option_map, Result, Ok, Err, List, [], ◌∷◌, ◌++◌, codes, decimal, take}
use Rattle.std.specs.List.{find, list_any}
use Rattle.std.specs.Option.{option_map_or}
use Rattle.lines_layout.specs.Names.{Text}
use Rattle.isa.specs.declared.instr.Instr.{Instr}
use Rattle.isa.specs.declared.programs.Programs.{Programs}
use Rattle.litmus_text.specs.declared.text_lines.LinedObject.{LinedObject}
use Rattle.litmus_text.specs.TextLines.{line_at}
use Rattle.processor.specs.declared.act.Act.{Act}
use Rattle.processor.specs.declared.act.Act.TheVariants as acts
use Rattle.machine.specs.State.{State, processor_at}
use Rattle.machine.specs.Steps.{step_of}
use Rattle.machine.specs.declared.refusal.Refusal.{Refusal}
use Rattle.machine.specs.declared.step.Seen.{Seen}
use Rattle.machine.specs.declared.step.Seen.TheVariants as shows
use Rattle.machine.specs.declared.step.Step.{Step}
use Rattle.commands.specs.StateTexts.{end_of_line}
use Rattle.debugger.specs.Halts.{halt_of, made}
use Rattle.debugger.specs.Marks.{tried}
use Rattle.debugger.specs.Sessions.{SessionValue, after}
use Rattle.debugger.specs.Writes.{writes_word}
use Rattle.debugger.specs.declared.halt.Halt.{Halt}
use Rattle.debugger.specs.declared.halt.Halt.TheVariants as halts
use Rattle.debug_scripts.specs.SessionTexts.{halt_line}
use Rattle.conversations.specs.declared.breaks.Cut.{Cut}
use Rattle.conversations.specs.declared.moment.Moment.{Moment}
use Rattle.conversations.specs.declared.moment.Moment.TheVariants as moments
use Rattle.conversations.specs.Desks.{Declaration}

-- ---- at which steps

-- whether a test passes for one of some items, by its place, where the first has the place i
abbrev pub some_placed : {A : Type 0} → (ℕ → A → Bool) → ℕ → List A → Bool
some_placed test i [] = false
some_placed test i (x ∷ later) = test i x || some_placed test (i + 1) later

-- whether a line is this one
abbrev pub is_line : ℕ → Option ℕ → Bool
is_line n line = option_map_or (λ own. own == n) line false

-- on which line of the text an instruction of processor p stands, if it is known which program it runs, and where it is
abbrev pub line_by : LinedObject → ℕ → Option Bool → Option ℕ → Option ℕ
line_by lined p None place = None
line_by lined p (Some recovery) None = None
line_by lined p (Some recovery) (Some place) = line_at lined.lines p recovery place

-- on which line of the text the next instruction of processor p stands
abbrev pub line_of : LinedObject → State → ℕ → Option ℕ
line_of lined s p = line_by lined p (option_map (λ c. c.recovering) (processor_at s p)) (option_map (λ c. c.place) (processor_at s p))

-- whether processor p comes to a line: its next instruction is there in the second state, and was not in the first
abbrev pub comes_to : LinedObject → ℕ → State → State → ℕ → Bool
comes_to lined n s t p = is_line n (line_of lined t p) && not (is_line n (line_of lined s p))

-- an instruction that trapped
abbrev pub act_traps : Act → Bool
act_traps acts.Local = false
act_traps acts.Fence = false
act_traps (acts.Read word value) = false
act_traps (acts.Delay entry) = false
act_traps (acts.Locked word value new) = false
act_traps (acts.Trap address) = true

-- a step in which a processor trapped
abbrev pub traps : Seen → Bool
traps (shows.Ran p place act) = act_traps act
traps (shows.Left p i entry) = false
traps (shows.Persisted word value) = false
traps (shows.Settled line) = false
traps (shows.Crashed n) = false

-- a crash
abbrev pub is_crash : Seen → Bool
is_crash (shows.Ran p place act) = false
is_crash (shows.Left p i entry) = false
is_crash (shows.Persisted word value) = false
is_crash (shows.Settled line) = false
is_crash (shows.Crashed n) = true

-- whether a moment is that of an accepted step, by the state before it, what it showed, and the state after it
abbrev pub is_moment : LinedObject → State → Seen → State → Moment → Bool
is_moment lined s seen t (moments.Line n) = some_placed (λ p programs. comes_to lined n s t p) 0 lined.object.processors
is_moment lined s seen t moments.Crash = is_crash seen
is_moment lined s seen t moments.Trap = traps seen
is_moment lined s seen t (moments.Write word) = writes_word word seen

-- ---- where there is one

-- whether an instruction of a program of processor p stands on a line
abbrev pub stands_in : LinedObject → ℕ → ℕ → Bool → List Instr → Bool
stands_in lined n p recovery program = some_placed (λ place instr. is_line n (line_at lined.lines p recovery place)) 0 program

-- whether one of both its programs does
abbrev pub stands_in_one : LinedObject → ℕ → ℕ → Programs → Bool
stands_in_one lined n p programs = stands_in lined n p false programs.main || stands_in lined n p true programs.recovery

-- whether a moment may come at all: an instruction stands on the line that it names
abbrev pub may_come : LinedObject → Moment → Bool
may_come lined (moments.Line n) = some_placed (stands_in_one lined n) 0 lined.object.processors
may_come lined moments.Crash = true
may_come lined moments.Trap = true
may_come lined (moments.Write word) = true

-- ---- the breaks of a conversation

-- whether one of the lines declares a break, or a watch that halts, of this id
abbrev pub has_break : List Declaration → ℕ → Bool
has_break ds id = list_any (λ d. (d.id == id) && is_some d.halts) ds

-- whether one declares any
abbrev pub has_breaks : List Declaration → Bool
has_breaks ds = list_any (λ d. is_some d.halts) ds

-- whether one halts behind an accepted step
abbrev pub halts_at : LinedObject → State → Seen → State → Declaration → Bool
halts_at lined s seen t d = option_map_or (is_moment lined s seen t) d.halts false

-- the id of the first that does, in the order in which they were declared
abbrev pub break_at : LinedObject → List Declaration → State → Seen → State → Option ℕ
break_at lined ds s seen t = option_map (λ d. d.id) (find (halts_at lined s seen t) ds)

-- so many steps are made, and then the break of this id halts
abbrev pub cut : ℕ → ℕ → Cut
cut count id = record { count = count; id = id }

-- the break that halts there, or otherwise what comes later
abbrev pub cut_or : ℕ → Option ℕ → Option Cut → Option Cut
cut_or n (Some id) later = Some (cut n id)
cut_or n None later = later

-- a step was made, the n-th: a break halts behind it, or what comes from where it led; a refused step halts by itself
abbrev pub cut_behind : ℕ → LinedObject → List Declaration → State → Result (Seen × State) Refusal → (State → Option Cut) → Option Cut
cut_behind n lined ds s (Ok done) later = cut_or n (break_at lined ds s done.0 done.1) (later done.1)
cut_behind n lined ds s (Err refusal) later = None

-- where a break halts steps, if one does, where n are made before them
abbrev pub cut_from : ℕ → LinedObject → List Declaration → State → List Step → Option Cut
cut_from n lined ds s [] = None
cut_from n lined ds s (step ∷ steps) = cut_behind (n + 1) lined ds s (step_of s step) (λ t. cut_from (n + 1) lined ds t steps)

-- where a break halts steps, if one does
abbrev pub cut_of : LinedObject → List Declaration → State → List Step → Option Cut
cut_of lined ds s steps = cut_from 0 lined ds s steps

-- ---- steps that are made

-- the steps up to there
abbrev pub up_to : Option Cut → List Step → List Step
up_to None steps = steps
up_to (Some cut) steps = take cut.count steps

-- those of some steps that no break is before
abbrev pub unbroken : LinedObject → List Declaration → State → List Step → List Step
unbroken lined ds s steps = up_to (cut_of lined ds s steps) steps

-- what is answered where all steps up to there were made
abbrev pub end_line : Option Cut → Text
end_line None = halt_line halts.End
end_line (Some cut) = codes "break " ++ decimal cut.id ++ codes " " ++ decimal cut.count ++ end_of_line

-- what is answered where those steps halted: a stop and a refusal come before the break
abbrev pub cut_line : Option Cut → Halt → Text
cut_line cut (halts.Stop id n) = halt_line (halts.Stop id n)
cut_line cut (halts.Refused n refusal) = halt_line (halts.Refused n refusal)
cut_line cut (halts.NoMemory n) = halt_line (halts.NoMemory n)
cut_line cut halts.End = end_line cut

-- the session after these steps are made, up to where they halt
abbrev pub session_made : LinedObject → List Declaration → SessionValue → List Step → SessionValue
session_made lined ds v steps = let some = unbroken lined ds v.past.state steps in after v (take (made some (halt_of v some)) some)

-- how many of them were tried then
abbrev pub tried_of : LinedObject → List Declaration → SessionValue → List Step → ℕ
tried_of lined ds v steps = let some = unbroken lined ds v.past.state steps in tried some (halt_of v some)

-- and what is answered
abbrev pub made_text : LinedObject → List Declaration → SessionValue → List Step → Text
made_text lined ds v steps = cut_line (cut_of lined ds v.past.state steps) (halt_of v (unbroken lined ds v.past.state steps))
