-- What the words of a command line ask for, and how the program ends where they ask for no command.
use Rattle.std.specs.Prelude.{◌≡◌, ◌≢◌, ◌⊎◌, ◌<◌, ◌*◌, ◌^◌, ◌++◌, ⊤, ℕ, Bool, true, false, not, ◌||◌, ◌&&◌, if◌then◌else◌, List, [], Contains, length, Option, None, Some, option_copied, unwrap_or, codes, is_some, nat_lt}
use Rattle.std.specs.List.{list_any}
use Rattle.std.specs.Str.{bytes_eq}
use Rattle.std.specs.Str.Parse.{IsNumeral, digits_value}
use Rattle.clap.specs.Words.{HasKind, Row, Text, all_of, first_of, one_of, kind_of, fault_of, subcommand_of}
use Rattle.clap.specs.declared.error.Error.{Error}
use Rattle.clap.specs.declared.error.kind.ErrorKind.{ErrorKind}
use Rattle.clap.specs.declared.error.kind.ErrorKind.TheVariants.{DisplayHelp, DisplayVersion, OutOfMemory}
use Rattle.commands.specs.AskedSites.{site_named}
use Rattle.commands.specs.declared.asked_site.AskedSite.{AskedSite}
use Rattle.commands.specs.declared.jobs.Job.{Job}
use Rattle.commands.specs.declared.jobs.Job.TheVariants as jobs
use Rattle.commands.specs.declared.jobs.ScheduleJob.{ScheduleJob}
use Rattle.commands.specs.declared.jobs.ScheduleJob.TheVariants as schedules
use Rattle.commands.specs.declared.jobs.Task.{Task}
use Rattle.commands.specs.declared.jobs.Task.TheVariants as tasks
use Rattle.commands.specs.declared.jobs.Task.TheVariants.{Do, Schedules}
use Rattle.commands.specs.declared.jobs.ImagesOptions.{ImagesOptions}
use Rattle.commands.specs.declared.jobs.AskedRuns.{AskedRuns}
use Rattle.commands.specs.declared.jobs.CheckOptions.{CheckOptions}
use Rattle.commands.specs.declared.jobs.QuestionOptions.{QuestionOptions}
use Rattle.commands.specs.declared.jobs.OutcomesOptions.{OutcomesOptions}
use Rattle.commands.specs.declared.jobs.Demand.{Demand}
use Rattle.commands.specs.declared.jobs.Demand.TheVariants.{Cond, Ends, Recovered, All}
use Rattle.commands.specs.declared.jobs.HuntOptions.{HuntOptions}
use Rattle.commands.specs.declared.jobs.FencesOptions.{FencesOptions}
use Rattle.commands.specs.declared.jobs.MendOptions.{MendOptions}
use Rattle.commands.specs.declared.jobs.NextOptions.{NextOptions}
use Rattle.commands.specs.declared.jobs.TraceOptions.{TraceOptions}
use Rattle.commands.specs.declared.jobs.ReplayOptions.{ReplayOptions}
use Rattle.commands.specs.declared.jobs.TallyOptions.{TallyOptions}
use Rattle.schedule.specs.declared.plan.Plan.{Plan}
use Rattle.thread_jobs.specs.ThreadReports.{MayWork}
use Rattle.workers.specs.Limits.{MayShare}
use Rattle.px86.specs.Commands.{command_line, command_named, row_of}
use Rattle.px86.specs.declared.command.Command.{Command}
use Rattle.px86.specs.declared.command.Command.TheVariants.{Asm, Dis, Run, Trace, Next, Law, Debug, Images, Replay, Check, Outcomes, Tally, Hunt, Fences, Mend, Live}
use Rattle.px86.specs.declared.command.Reads.{Reads}
use Rattle.px86.specs.declared.command.Reads.TheVariants as reads
use Rattle.px86.specs.declared.request.Form.{Form}
use Rattle.px86.specs.declared.request.Form.TheVariants.{Lines, Json, Gcc}
use Rattle.px86.specs.declared.request.Input.{Input}
use Rattle.px86.specs.declared.request.Input.TheVariants as inputs
use Rattle.px86.specs.declared.request.Request.{Request}
use Rattle.px86.specs.declared.request.Declined.{Declined}
use Rattle.px86.specs.declared.request.Declined.TheVariants.{Usage, Shown, NoMemory}

-- whether an option's text says yes
abbrev pub is_yes : Option Text → Bool
is_yes None = false
is_yes (Some text) = bytes_eq text (codes "true")

-- whether a parse found that a flag is given
abbrev pub is_given : Text → List Row → Bool
is_given name rows = is_yes (one_of name rows)

-- whether a parse found a value of an option
abbrev pub has_value : Text → List Row → Bool
has_value name rows = is_some (first_of name rows)

-- whether a parse found that an image is to be explained, and no condition of images
abbrev pub lacks_image : List Row → Bool
lacks_image rows = is_given (codes "explain-image") rows && not (has_value (codes "all") rows)

-- The options that a parse of `images` found.
pub record AreOptions (rows : List Row) (options : ImagesOptions) : Type 0 where
  pub only_count : options.only_count ≡ is_given (codes "count") rows
  pub names : options.names ≡ is_given (codes "names") rows
  pub all : first_of (codes "all") rows ≡ option_copied options.all
  pub some : first_of (codes "some") rows ≡ option_copied options.some
  pub explains_image : options.explains_image ≡ is_given (codes "explain-image") rows

-- whether a parse of `images` found an option of which `--set` is no part: `--count`, `--names`, `--all` or `--some`
abbrev pub asks_of_all : List Row → Bool
asks_of_all rows =
    is_given (codes "count") rows || (is_given (codes "names") rows || (has_value (codes "all") rows || has_value (codes "some") rows))

-- A parse of `images` found that it is asked for the images, or for what leaves the one of these values, and not for both. An image
-- is to be explained only where one is named.
abbrev pub IsImagesJob : List Row → Job → Type 0
IsImagesJob rows (jobs.Images options) = (first_of (codes "set") rows ≡ None) × (lacks_image rows ≡ false) × AreOptions rows options
IsImagesJob rows (jobs.Set options) =
    (first_of (codes "set") rows ≡ Some options.values.now) × (asks_of_all rows ≡ false) × (options.explains_image ≡ is_given (codes "explain-image") rows)
IsImagesJob rows _ = ⊥

-- whether a parse of `trace` or `next` found that states are asked for, and no JSON, which alone has them
abbrev pub lacks_states : List Row → Bool
lacks_states rows = is_given (codes "states") rows && not (is_given (codes "json") rows)

-- The options of `trace` that a parse found: no states are asked for where the report has none.
pub record AreTraceOptions (rows : List Row) (options : TraceOptions) : Type 0 where
  pub within : lacks_states rows ≡ false
  pub states : options.states ≡ is_given (codes "states") rows

-- The options of `next` that a parse found: no states are asked for where the report has none.
pub record AreNextOptions (rows : List Row) (options : NextOptions) : Type 0 where
  pub within : lacks_states rows ≡ false
  pub refused : options.refused ≡ is_given (codes "refused") rows
  pub states : options.states ≡ is_given (codes "states") rows

-- A value with the property was found, or no value has it.
abbrev pub Finds : {A : Type 0} → (A → Type 0) → Option A → Type 0
Finds {A} P None = (a : A) → P a → ⊥
Finds P (Some a) = P a

-- A text spells a number below a bound: it is decimal digits, at least one, and nothing else.
abbrev pub Spells : ℕ → Text → ℕ → Type 0
Spells bound text n = IsNumeral 10 text × (digits_value 10 text ≡ n) × (n < bound)

-- what an M behind a number stands for
abbrev pub million : ℕ
million = 1000000

-- so many millions, if these are below a bound
abbrev pub millions_of : ℕ → Option ℕ → Option ℕ
millions_of bound None = None
millions_of bound (Some n) = if nat_lt (n * million) bound then Some (n * million) else None

-- A text spells a count below a bound: a number, or a number of millions and an M behind it.
abbrev pub SpellsCount : ℕ → Text → ℕ → Type 0
SpellsCount bound text n =
    Spells bound text n ⊎ ((digits : Text) × (millions : ℕ) × (text ≡ digits ++ codes "M") × Spells bound digits millions × (n ≡ millions * million) × (n < bound))

-- An option's number below a bound, or this one where the option is left out.
abbrev pub IsNumberOr : ℕ → ℕ → Option Text → ℕ → Type 0
IsNumberOr bound default None n = n ≡ default
IsNumberOr bound default (Some text) n = Spells bound text n

-- An option's count below a bound, or this one where the option is left out.
abbrev pub IsCountOr : ℕ → ℕ → Option Text → ℕ → Type 0
IsCountOr bound default None n = n ≡ default
IsCountOr bound default (Some text) n = SpellsCount bound text n

-- The number below a bound of an option that is given.
abbrev pub IsNumber : ℕ → Option Text → ℕ → Type 0
IsNumber bound None n = ⊥
IsNumber bound (Some text) n = Spells bound text n

-- An option's number below a bound, or none where the option is left out.
abbrev pub IsNumberIfAny : ℕ → Option Text → Option ℕ → Type 0
IsNumberIfAny bound None read = read ≡ None
IsNumberIfAny bound (Some text) None = ⊥
IsNumberIfAny bound (Some text) (Some n) = Spells bound text n

-- whether a parse found a condition on all runs, or on every turn or the end of schedules: `--all`, `--ends` or `--recovered`
abbrev pub has_condition : List Row → Bool
has_condition rows = has_value (codes "all") rows || (has_value (codes "ends") rows || has_value (codes "recovered") rows)

-- whether it found a condition on ends: `--ends` or `--recovered`
abbrev pub asks_ends : List Row → Bool
asks_ends rows = has_value (codes "ends") rows || has_value (codes "recovered") rows

-- how many turns a schedule has at most, where `--length` is left out: 1,000 where every turn is asked about, by `--all`, or an end
-- to which it comes, by `--ends` or `--recovered`; otherwise 100
abbrev pub default_length : List Row → ℕ
default_length rows = if has_condition rows then 1000 else 100

-- whether a parse found an option that asks for what has persisted: `--crash-after`, `--cond`, `--ends` or `--recovered`
abbrev pub asks_persisted : List Row → Bool
asks_persisted rows = has_value (codes "crash-after") rows || (has_value (codes "cond") rows || asks_ends rows)

-- whether a parse found `--lazy`, and an option that asks for what has persisted
abbrev pub asks_beyond_lazy : List Row → Bool
asks_beyond_lazy rows = is_given (codes "lazy") rows && asks_persisted rows

-- The plan of schedules that a parse found: nothing is asked of what has persisted, where it is lazy.
pub record IsPlan (rows : List Row) (plan : Plan) : Type 0 where
  pub seed : IsNumberOr (2 ^ 64) 0 (first_of (codes "seed") rows) plan.seed
  pub length : IsNumberOr (2 ^ 32) (default_length rows) (first_of (codes "length") rows) plan.length
  pub crash_after : IsNumberIfAny (2 ^ 32) (first_of (codes "crash-after") rows) plan.crash_after
  pub within : asks_beyond_lazy rows ≡ false
  pub lazy : plan.lazy ≡ is_given (codes "lazy") rows

-- The plan that a parse found, the first of its schedules that is run, and how many are.
pub record AreSchedules (rows : List Row) (options : TallyOptions) : Type 0 where
  pub plan : IsPlan rows options.plan
  pub first : IsNumberOr (2 ^ 64) 0 (first_of (codes "first") rows) options.first
  pub runs : IsNumberOr (2 ^ 64) 100 (first_of (codes "runs") rows) options.runs

-- The plan that a parse of `replay` found, and the number of a schedule.
pub record IsSchedule (rows : List Row) (options : ReplayOptions) : Type 0 where
  pub plan : IsPlan rows options.plan
  pub number : IsNumber (2 ^ 32) (first_of (codes "number") rows) options.number

-- How many threads an option asks for; so many where it is left out.
abbrev pub IsThreadCountOr : ℕ → Option Text → ℕ → Type 0
IsThreadCountOr default read n = IsNumberOr (2 ^ 64) default read n × MayShare n

-- The same; 2 where it is left out.
abbrev pub IsThreadCount : Option Text → ℕ → Type 0
IsThreadCount read n = IsThreadCountOr 2 read n

-- How many threads `--workers` of `mend` asks for; 1 where it is left out.
abbrev pub IsWorkerCount : Option Text → ℕ → Type 0
IsWorkerCount read n = IsThreadCountOr 1 read n

-- One of `--cond`, `--all`, `--ends` and `--recovered` is given, and no other: what is demanded of each schedule.
abbrev pub IsDemand : Option Text → Option Text → Option Text → Option Text → Demand → Type 0
IsDemand (Some text) None None None (Cond asked) = text ≡ asked.now
IsDemand None (Some text) None None (All asked) = text ≡ asked.now
IsDemand None None (Some text) None (Ends asked) = text ≡ asked.now
IsDemand None None None (Some text) (Recovered asked) = text ≡ asked.now
IsDemand _ _ _ _ _ = ⊥

-- The options of `hunt` that a parse found: no image is to be explained where there is none.
pub record AreHuntOptions (rows : List Row) (options : HuntOptions) : Type 0 where
  pub demand : IsDemand (first_of (codes "cond") rows) (first_of (codes "all") rows) (first_of (codes "ends") rows) (first_of (codes "recovered") rows) options.demand
  pub schedules : AreSchedules rows options.schedules
  pub workers : IsThreadCount (first_of (codes "workers") rows) options.workers
  pub within : lacks_image rows ≡ false
  pub show : options.show ≡ is_given (codes "show") rows
  pub names : options.names ≡ is_given (codes "names") rows
  pub as_steps : options.as_steps ≡ is_given (codes "as-steps") rows
  pub explains_image : options.explains_image ≡ is_given (codes "explain-image") rows

-- The site that an option names, or none where the option is left out.
abbrev pub IsSiteIfAny : Option Text → Option AskedSite → Type 0
IsSiteIfAny None read = read ≡ None
IsSiteIfAny (Some text) None = ⊥
IsSiteIfAny (Some text) (Some site) = site_named text ≡ Some site

-- how many states are told apart at most, where `--states` is left out
abbrev pub default_states : ℕ
default_states = 1000000

-- whether a parse of `check` found that something is asked: `--all`, `--ends`, `--recovered` or `--images`
abbrev pub has_question : List Row → Bool
has_question rows =
    has_value (codes "all") rows || (has_value (codes "ends") rows || (has_value (codes "recovered") rows || is_given (codes "images") rows))

-- whether it found a question of recovery, and that recovery is not explored
abbrev pub lacks_recovery : List Row → Bool
lacks_recovery rows = is_given (codes "before-crash") rows && has_value (codes "recovered") rows

-- whether it found that a run is to be explained that breaks a condition, and none
abbrev pub lacks_condition : List Row → Bool
lacks_condition rows = is_given (codes "explain-image") rows && not (has_condition rows)

-- whether it found a question of recovery that is not explored, a run to be explained where there is none, or the name of a question of
-- the program, which is asked where no condition is
abbrev pub asks_beyond : List Row → Bool
asks_beyond rows = lacks_recovery rows || (lacks_condition rows || has_value (codes "only") rows)

-- the files that it found, in their order
abbrev pub files_in : List Row → List Text
files_in rows = unwrap_or (all_of (codes "FILE") rows) []

-- whether files are several
abbrev pub are_several : List Text → Bool
are_several files = nat_lt 1 (length files)

-- whether it found several
abbrev pub has_several : List Row → Bool
has_several rows = are_several (files_in rows)

-- The options of `check` that a parse found: something is asked, and no more than can be told.
pub record AreCheckOptions (rows : List Row) (options : CheckOptions) : Type 0 where
  pub asks : has_question rows ≡ true
  pub within : asks_beyond rows ≡ false
  pub single : has_several rows ≡ false
  pub all : first_of (codes "all") rows ≡ option_copied options.all
  pub ends : first_of (codes "ends") rows ≡ option_copied options.ends
  pub recovered : first_of (codes "recovered") rows ≡ option_copied options.recovered
  pub images : options.images ≡ is_given (codes "images") rows
  pub before_crash : options.before_crash ≡ is_given (codes "before-crash") rows
  pub states : IsCountOr (2 ^ 64) default_states (first_of (codes "states") rows) options.states
  pub show : options.show ≡ is_given (codes "show") rows
  pub names : options.names ≡ is_given (codes "names") rows
  pub as_steps : options.as_steps ≡ is_given (codes "as-steps") rows
  pub explains_image : options.explains_image ≡ is_given (codes "explain-image") rows

-- whether it found what a condition alone is reported with: `--names` or `--as-steps`
abbrev pub needs_condition : List Row → Bool
needs_condition rows = is_given (codes "names") rows || is_given (codes "as-steps") rows

-- The options of `check` that a parse found where it asks the questions of the program: it found no condition, and nothing that needs one.
pub record AreQuestionOptions (rows : List Row) (options : QuestionOptions) : Type 0 where
  pub within : needs_condition rows ≡ false
  pub before_crash : options.before_crash ≡ is_given (codes "before-crash") rows
  pub states : IsCountOr (2 ^ 64) default_states (first_of (codes "states") rows) options.states
  pub show : options.show ≡ is_given (codes "show") rows
  pub explains_image : options.explains_image ≡ is_given (codes "explain-image") rows
  pub only : first_of (codes "only") rows ≡ option_copied options.only

-- The options of `outcomes` that a parse found.
pub record AreOutcomesOptions (rows : List Row) (options : OutcomesOptions) : Type 0 where
  pub recovered : options.recovered ≡ is_given (codes "recovered") rows
  pub states : IsCountOr (2 ^ 64) default_states (first_of (codes "states") rows) options.states

-- What a parse found that is asked of all runs: a condition at least, and none of recovery where that is not explored.
pub record AreAskedRuns (rows : List Row) (asked : AskedRuns) : Type 0 where
  pub asks : has_condition rows ≡ true
  pub within : lacks_recovery rows ≡ false
  pub all : first_of (codes "all") rows ≡ option_copied asked.all
  pub ends : first_of (codes "ends") rows ≡ option_copied asked.ends
  pub recovered : first_of (codes "recovered") rows ≡ option_copied asked.recovered
  pub before_crash : asked.before_crash ≡ is_given (codes "before-crash") rows
  pub states : IsCountOr (2 ^ 64) default_states (first_of (codes "states") rows) asked.states

-- The options of `fences` that a parse found.
pub record AreFencesOptions (rows : List Row) (options : FencesOptions) : Type 0 where
  pub asked : AreAskedRuns rows options.asked
  pub only : IsSiteIfAny (first_of (codes "only") rows) options.only

-- The options of `mend` that a parse found. It is asked of so many workers, for any number of which the report is the same.
pub record AreMendOptions (rows : List Row) (options : MendOptions) : Type 0 where
  pub asked : AreAskedRuns rows options.asked
  pub workers : ℕ
  pub counted : IsWorkerCount (first_of (codes "workers") rows) workers
  pub as_text : options.as_text ≡ is_given (codes "as-text") rows

-- What `tally` is asked of its schedules, by the texts of `--all`, `--ends` and `--recovered`: how they end, where none of these is
-- given; the losses by the condition of the first, or the ends to which they come by that of another, where it alone is.
abbrev pub IsTallyOf : Option Text → Option Text → Option Text → ScheduleJob → Type 0
IsTallyOf None None None (schedules.Tally options) = ⊤
IsTallyOf (Some text) None None (schedules.Losses options) = text ≡ options.all.now
IsTallyOf None (Some text) None (schedules.Ends options) = (text ≡ options.cond.now) × (options.recovered ≡ false)
IsTallyOf None None (Some text) (schedules.Ends options) = (text ≡ options.cond.now) × (options.recovered ≡ true)
IsTallyOf _ _ _ _ = ⊥

-- the schedules that a job runs
abbrev pub schedules_run : ScheduleJob → TallyOptions
schedules_run (schedules.Tally options) = options
schedules_run (schedules.Losses options) = options.schedules
schedules_run (schedules.Ends options) = options.schedules
schedules_run (schedules.Hunt options) = options.schedules

-- A parse of `tally` found that it is asked this, of these schedules.
abbrev pub IsTallyJob : List Row → ScheduleJob → Type 0
IsTallyJob rows job =
    IsTallyOf (first_of (codes "all") rows) (first_of (codes "ends") rows) (first_of (codes "recovered") rows) job × AreSchedules rows (schedules_run job)

-- whether a parse of `debug` found that a conversation is asked for, and JSON, in which it does not answer
abbrev pub talks_in_json : List Row → Bool
talks_in_json rows = is_given (codes "interactive") rows && is_given (codes "json") rows

-- A parse of `debug` found that it asks for this, and not for both.
abbrev pub IsDebugTask : List Row → Task → Type 0
IsDebugTask rows task = (talks_in_json rows ≡ false) × (task ≡ tasks.Debug)

-- A task is made of something with the property.
abbrev pub IsMadeOf : {A : Type 0} → (A → Task) → (A → Type 0) → Task → Type 0
IsMadeOf {A} make P task = (asked : A) × P asked × (task ≡ make asked)

-- A parse of `check` found that it asks this: what its options ask, or the questions of the program, where these ask nothing.
abbrev pub IsCheckTask : Bool → List Row → Task → Type 0
IsCheckTask true rows task = IsMadeOf (λ options. tasks.Check options) (AreCheckOptions rows) task
IsCheckTask false rows task = IsMadeOf (λ options. tasks.Ask options) (AreQuestionOptions rows) task

-- A parse of a command that found these rows asks for this task.
abbrev pub IsTaskOf : Command → List Row → Task → Type 0
IsTaskOf Asm rows task = task ≡ Do jobs.Asm
IsTaskOf Dis rows task = task ≡ Do jobs.Dis
IsTaskOf Run rows task = task ≡ Do jobs.Run
IsTaskOf Trace rows task = IsMadeOf (λ options. Do (jobs.Trace options)) (AreTraceOptions rows) task
IsTaskOf Next rows task = IsMadeOf (λ options. Do (jobs.Next options)) (AreNextOptions rows) task
IsTaskOf Law rows task = task ≡ Do jobs.Law
IsTaskOf Debug rows task = IsDebugTask rows task
IsTaskOf Images rows task = IsMadeOf Do (IsImagesJob rows) task
IsTaskOf Replay rows task = IsMadeOf (λ options. Do (jobs.Replay options)) (IsSchedule rows) task
IsTaskOf Check rows task = IsCheckTask (has_question rows) rows task
IsTaskOf Outcomes rows task = IsMadeOf (λ options. tasks.Outcomes options) (AreOutcomesOptions rows) task
IsTaskOf Tally rows task = IsMadeOf Schedules (IsTallyJob rows) task
IsTaskOf Hunt rows task = IsMadeOf (λ options. Schedules (schedules.Hunt options)) (AreHuntOptions rows) task
IsTaskOf Fences rows task = IsMadeOf (λ options. tasks.Fences options) (AreFencesOptions rows) task
IsTaskOf Mend rows task = IsMadeOf (λ options. tasks.Mend options) (AreMendOptions rows) task
IsTaskOf Live rows task = IsMadeOf (λ threads. tasks.Live threads) (IsThreadCount (first_of (codes "threads") rows)) task

-- Where a command's steps, or its script, come from, by the text of `--steps` and by whether `--no-steps` is given: from
-- the standard input, where neither is; and both are not given.
abbrev pub IsInput : Option Text → Bool → Input → Type 0
IsInput None false inputs.Standard = ⊤
IsInput (Some name) false (inputs.File file) = name ≡ file.now
IsInput None true inputs.Nothing = ⊤
IsInput _ _ _ = ⊥

-- Where a script comes from, by whether `--interactive` is given, and by the same: from a conversation, where it is, and the
-- others are not.
abbrev pub IsScript : Bool → Option Text → Bool → Input → Type 0
IsScript false steps none input = IsInput steps none input
IsScript true None false input = input ≡ inputs.Console
IsScript true _ _ input = ⊥

-- Where the steps of `check` come from, by whether something is asked by its options, and by the same: where the questions of the program
-- are asked, the standard input is not read.
abbrev pub IsCheckInput : Bool → Option Text → Bool → Input → Type 0
IsCheckInput true steps none input = IsInput steps none input
IsCheckInput false None none input = input ≡ inputs.Nothing
IsCheckInput false (Some name) none input = IsInput (Some name) none input

-- The same, of what a parse found of a command; from nowhere, where it has no steps.
abbrev pub IsInputOf : Reads → List Row → Input → Type 0
IsInputOf reads.Nothing rows input = input ≡ inputs.Nothing
IsInputOf reads.Steps rows input = IsInput (first_of (codes "steps") rows) (is_given (codes "no-steps") rows) input
IsInputOf reads.Asked rows input = IsCheckInput (has_question rows) (first_of (codes "steps") rows) (is_given (codes "no-steps") rows) input
IsInputOf reads.Script rows input =
    IsScript (is_given (codes "interactive") rows) (first_of (codes "steps") rows) (is_given (codes "no-steps") rows) input

-- whether a text names no form of faults, or one that may not stand beside JSON
abbrev pub is_no_format : Option Text → Bool → Bool
is_no_format None json = false
is_no_format (Some text) json = not (bytes_eq text (codes "gcc")) || json

-- whether a parse found a form of faults that is none: `--format` with another text than `gcc`, or beside `--json`
abbrev pub lacks_format : List Row → Bool
lacks_format rows = is_no_format (first_of (codes "format") rows) (is_given (codes "json") rows)

-- A parse of a command, if it is one, found that it asks for this task on this file, which is one of those that it found, with this
-- input, and for a form of faults that there is.
abbrev pub Asks : Option Command → List Row → Task → Text → Input → Type 0
Asks None rows task file input = ⊥
Asks (Some command) rows task file input =
    IsTaskOf command rows task × Contains (files_in rows) file × IsInputOf (row_of command).reads rows input × (lacks_format rows ≡ false)

-- A parse entered the command of this task, with this text among those for FILE, and with this input.
abbrev pub AsksIn : Option (Text × List Row) → Task → Text → Input → Type 0
AsksIn None task file input = ⊥
AsksIn (Some entered) task file input = Asks (command_named entered.0) entered.1 task file input

-- The words, of which the first is the program's name, ask for this command on this file, which is one of those that they name, with
-- steps or a script from this input.
abbrev pub AsksFor : List Text → Task → Text → Input → Type 0
AsksFor words task file input = AsksIn (subcommand_of command_line words) task file input

-- the files that a parse found of the command that it entered
abbrev pub entered_files : Option (Text × List Row) → List Text
entered_files None = []
entered_files (Some entered) = files_in entered.1

-- The words name these files, in this order.
abbrev pub HasFiles : List Text → List Text → Type 0
HasFiles words files = files ≡ entered_files (subcommand_of command_line words)

-- Whether a parse entered a command with `--moves`.
abbrev pub HasMovesIn : Option (Text × List Row) → Bool → Type 0
HasMovesIn None moves = ⊥
HasMovesIn (Some entered) moves = moves ≡ is_given (codes "moves") entered.1

-- Whether the words ask for moves.
abbrev pub HasMoves : List Text → Bool → Type 0
HasMoves words moves = HasMovesIn (subcommand_of command_line words) moves

-- Whether a parse entered a command with `--progress`.
abbrev pub HasProgressIn : Option (Text × List Row) → Bool → Type 0
HasProgressIn None progress = ⊥
HasProgressIn (Some entered) progress = progress ≡ is_given (codes "progress") entered.1

-- Whether the words ask for lines of progress.
abbrev pub HasProgress : List Text → Bool → Type 0
HasProgress words progress = HasProgressIn (subcommand_of command_line words) progress

-- how a report is written, and a fault, where `--json` and `--format` are given or are not
abbrev pub form_of : Bool → Bool → Form
form_of json format = if json then Json else if format then Gcc else Lines

-- How a command that a parse entered writes its report.
abbrev pub HasFormIn : Option (Text × List Row) → Form → Type 0
HasFormIn None form = ⊥
HasFormIn (Some entered) form = form ≡ form_of (is_given (codes "json") entered.1) (has_value (codes "format") entered.1)

-- How the words ask for the report.
abbrev pub HasForm : List Text → Form → Type 0
HasForm words form = HasFormIn (subcommand_of command_line words) form

-- whether a word is `--explain`, which is looked for among words that are not understood too
abbrev pub is_explain : Text → Bool
is_explain word = bytes_eq word (codes "--explain")

-- The words ask for no command.
abbrev pub AsksForNone : List Text → Type 0
AsksForNone words = (request : Request) → AsksFor words request.task request.file.now request.input → ⊥

-- The threads that a task asks for may be had.
abbrev pub AsksForThreads : Task → Type 0
AsksForThreads (Schedules job) = MayWork job
AsksForThreads (tasks.Live threads) = MayShare threads
AsksForThreads _ = ⊤

-- why no command is to be done, by the kind of the parse's error
abbrev pub declined_by : ErrorKind → Error → Declined
declined_by DisplayHelp error = Shown error
declined_by DisplayVersion error = Shown error
declined_by OutOfMemory error = NoMemory
declined_by _ error = Usage

-- why no command is to be done
abbrev pub declined_of : Error → Declined
declined_of error = declined_by (kind_of error) error

-- whether the kind is one of those that ask for a text
abbrev pub asks_text : ErrorKind → Bool
asks_text DisplayHelp = true
asks_text DisplayVersion = true
asks_text _ = false

-- The words are declined where memory runs out, or for an error of a kind that the parse finds in them.
abbrev pub IsDeclinedFor : List Text → Declined → Type 0
IsDeclinedFor words declined = (declined ≡ NoMemory) ⊎ ((error : Error) × HasKind (fault_of command_line words) error × (declined ≡ declined_of error))

-- The words are declined for what the parse finds in them, or since no command is asked for by what it finds: an
-- option's text is no number, or none that it may be.
abbrev pub IsRefusedFor : List Text → Declined → Type 0
IsRefusedFor words declined = IsDeclinedFor words declined ⊎ ((declined ≡ Usage) × AsksForNone words)

-- The words ask for no text, and for no command: the parse finds a fault in them, or what it finds asks for none.
abbrev pub IsMisread : List Text → Type 0
IsMisread words =
    (list_any asks_text (fault_of command_line words) ≡ false) × ((fault_of command_line words ≢ []) ⊎ AsksForNone words)
