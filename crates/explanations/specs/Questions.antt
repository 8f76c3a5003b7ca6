-- Conditions that are none, of a command line and of the stops of a script.
use Rattle.std.specs.Prelude.{ℕ, Bool, false, not, is_ok, if◌then◌else◌, option_map, Option, Some, None, List, take, drop, bytes_eq, codes}
use Rattle.std.specs.Borrow.{Bor}
use Rattle.std.specs.List.{position_from, prefix_len}
use Rattle.std.specs.Option.{option_map_or}
use Rattle.commands.specs.declared.jobs.AskedRuns.{AskedRuns}
use Rattle.commands.specs.declared.jobs.Demand.{Demand}
use Rattle.commands.specs.declared.jobs.Demand.TheVariants.{All, Cond, Ends, Recovered}
use Rattle.commands.specs.declared.jobs.Job.TheVariants.{Images}
use Rattle.commands.specs.declared.jobs.ScheduleJob.{ScheduleJob}
use Rattle.commands.specs.declared.jobs.EndsOptions.{EndsOptions}
use Rattle.commands.specs.declared.jobs.ScheduleJob.TheVariants as jobs
use Rattle.commands.specs.declared.jobs.ScheduleJob.TheVariants.{Hunt, Losses, Tally}
use Rattle.commands.specs.declared.jobs.Task.{Task}
use Rattle.commands.specs.declared.jobs.Task.TheVariants.{Check, Do, Fences, Mend, Schedules}
use Rattle.conditions.specs.Texts.{condition_of}
use Rattle.lines_layout.specs.Layouts.{NamedLines}
use Rattle.line_forms.specs.Places.{before_comment}
use Rattle.questions.specs.Conditions.{asked_of}
use Rattle.questions.specs.Questions.{Questioned}
use Rattle.text_tokens.specs.Text.{is_blank, lines_of, past_blanks}

-- a text is no condition of a program
abbrev pub is_misasked : Questioned → List ℕ → Bool
is_misasked program text = not (is_ok (asked_of program text))

-- a text is no condition on the words of these names
abbrev pub is_faulty : NamedLines → List ℕ → Bool
is_faulty layout text = not (is_ok (condition_of layout text))

-- a condition of a command line: the option that has it, and its text
abbrev pub Question : Type 0
Question = List ℕ × List ℕ

-- the condition of an option, where it is given
abbrev pub given : List ℕ → Option (Bor (List ℕ)) → Option Question
given option text = option_map (λ asked. (option, asked.now)) text

-- what a schedule that is looked for breaks
abbrev pub condition_demanded : Demand → Question
condition_demanded (Cond text) = (codes "--cond", text.now)
condition_demanded (Ends text) = (codes "--ends", text.now)
condition_demanded (Recovered text) = (codes "--recovered", text.now)
condition_demanded (All text) = (codes "--all", text.now)

-- what is to hold at the ends to which schedules come
abbrev pub condition_at_ends : EndsOptions → Question
condition_at_ends options = (if options.recovered then codes "--recovered" else codes "--ends", options.cond.now)

-- the condition of schedules
abbrev pub condition_of_schedules : ScheduleJob → Option Question
condition_of_schedules (Tally options) = None
condition_of_schedules (Losses options) = Some (codes "--all", options.all.now)
condition_of_schedules (jobs.Ends options) = Some (condition_at_ends options)
condition_of_schedules (Hunt options) = Some (condition_demanded options.demand)

-- the conditions that `fences` and `mend` ask of all runs
abbrev pub asked_of_runs : AskedRuns → Option Question × Option Question × Option Question
asked_of_runs asked = (given (codes "--all") asked.all, given (codes "--ends") asked.ends, given (codes "--recovered") asked.recovered)

-- the conditions of a command, in the order in which they are read
abbrev pub questions_of : Task → Option Question × Option Question × Option Question
questions_of (Do (Images options)) = (given (codes "--all") options.all, given (codes "--some") options.some, None)
questions_of (Schedules job) = (condition_of_schedules job, None, None)
questions_of (Check options) = (given (codes "--all") options.all, given (codes "--ends") options.ends, given (codes "--recovered") options.recovered)
questions_of (Fences options) = asked_of_runs options.asked
questions_of (Mend options) = asked_of_runs options.asked
questions_of _ = (None, None, None)

-- a condition, if it is none, otherwise another
abbrev pub faulty_or : Questioned → Option Question → Option Question → Option Question
faulty_or program None other = other
faulty_or program (Some question) other = if is_misasked program question.1 then Some question else other

-- the condition of a command that has the fault, where one has: the first that is none
abbrev pub faulty_of : Questioned → Task → Option Question
faulty_of program asked =
    let questions = questions_of asked in
    faulty_or program questions.0 (faulty_or program questions.1 questions.2)

-- a byte of a piece: blanks alone separate pieces
abbrev pub is_solid : ℕ → Bool
is_solid b = not (is_blank b)

-- the first piece of a text, and what is after it
abbrev pub piece_of : List ℕ → List ℕ × List ℕ
piece_of text =
    let rest = past_blanks text in
    let count = prefix_len is_solid rest in
    (take count rest, drop count rest)

-- the text of the condition of a stop, on a line that declares one: what is after `stop` and the id
abbrev pub stop_condition_of : List ℕ → Option (List ℕ)
stop_condition_of line =
    let first = piece_of (before_comment line) in
    if bytes_eq first.0 (codes "stop") then Some (piece_of first.1).1 else None

-- a line declares a stop whose condition is none
abbrev pub is_faulty_stop : NamedLines → List ℕ → Bool
is_faulty_stop layout line = option_map_or (is_faulty layout) (stop_condition_of line) false

-- the first line of a script, from 1, that declares a stop whose condition is none
abbrev pub faulty_stop_of : NamedLines → List ℕ → Option ℕ
faulty_stop_of layout script = position_from (is_faulty_stop layout) 1 (lines_of script)
