-- The commands, a row for each: its name, where its steps come from, and its options. The command line is made of these rows.
-- Crate `clap` says in its definitions what a parse makes of words; here are the arguments that this program asks it for.
use Rattle.std.specs.Prelude.{true, List, [], ◌∷◌, ◌++◌, Option, Some, codes, find, map}
use Rattle.std.specs.List.{fold}
use Rattle.std.specs.Str.{bytes_eq}
use Rattle.clap.specs.Words.{App, Rule, Text, new_app, new_rule, with_rule, with_subcommand}
use Rattle.clap.specs.declared.builder.action.ArgAction.TheVariants.{Append, Set, SetTrue}
use Rattle.clap.specs.Lexer.{usize_max}
use Rattle.px86.specs.declared.command.Command.{Command}
use Rattle.px86.specs.declared.command.Command.TheVariants.{Asm, Dis, Run, Trace, Next, Law, Debug, Images, Replay, Check, Outcomes, Tally, Hunt, Fences, Mend, Live}
use Rattle.px86.specs.declared.command.CommandOption.{CommandOption}
use Rattle.px86.specs.declared.command.CommandRow.{CommandRow}
use Rattle.px86.specs.declared.command.Reads.{Reads}
use Rattle.px86.specs.declared.command.Reads.TheVariants as reads
use Rattle.px86.specs.declared.command.Takes.{Takes}
use Rattle.px86.specs.declared.command.Takes.TheVariants as takes

-- the commands, in the order of the help of all
abbrev pub all_commands : List Command
all_commands = Asm ∷ Dis ∷ Run ∷ Trace ∷ Next ∷ Law ∷ Debug ∷ Images ∷ Replay ∷ Check ∷ Outcomes ∷ Tally ∷ Hunt ∷ Fences ∷ Mend ∷ Live ∷ []

-- the argument FILE, which has to be given
abbrev pub one_file : Rule
one_file = record (new_rule (codes "FILE")) { required = true; action = Some Set }

-- the same, where several files may be given
abbrev pub some_files : Rule
some_files = record one_file { action = Some Append; range = Some (record { start_inclusive = 1; end_inclusive = usize_max }) }

-- the argument of a command: one that asks the questions of programs takes several
abbrev pub file_argument : Reads → Rule
file_argument reads.Nothing = one_file
file_argument reads.Steps = one_file
file_argument reads.Asked = some_files
file_argument reads.Script = one_file

-- a flag of this name
abbrev pub flag : Text → Rule
flag name = record (new_rule name) { long = Some name; action = Some SetTrue }

-- an option of this name that takes a value
abbrev pub value : Text → Rule
value name = record (new_rule name) { long = Some name; action = Some Set; value_names = 1 }

-- an option of this name that takes a value, and has to be given
abbrev pub needed : Text → Rule
needed name = record (value name) { required = true }

-- the options that say where steps come from: `--steps FILE` and `--no-steps`
abbrev pub input_options : Reads → List Rule
input_options reads.Nothing = []
input_options reads.Steps = value (codes "steps") ∷ flag (codes "no-steps") ∷ []
input_options reads.Asked = value (codes "steps") ∷ flag (codes "no-steps") ∷ []
input_options reads.Script = value (codes "steps") ∷ flag (codes "no-steps") ∷ []

-- the options of a plan of schedules
abbrev pub plan_options : List Rule
plan_options = value (codes "seed") ∷ value (codes "length") ∷ value (codes "crash-after") ∷ []

-- these, the first of the plan's schedules that is run, and how many are
abbrev pub schedule_options : List Rule
schedule_options = plan_options ++ value (codes "first") ∷ value (codes "runs") ∷ []

-- what `fences` and `mend` ask of all runs
abbrev pub asked_options : List Rule
asked_options = value (codes "all") ∷ value (codes "ends") ∷ value (codes "recovered") ∷ flag (codes "before-crash") ∷ value (codes "states") ∷ []

-- what the command line knows of a command
pub record Row : Type 0 where
  pub name : Text
  pub reads : Reads
  pub options : List Rule

abbrev row : Text → Reads → List Rule → Row
row name from options = record { name = name; reads = from; options = options }

-- the row of each command; the options are those that it has beside FILE, those of all commands and those of its steps
abbrev pub row_of : Command → Row
row_of Asm = row (codes "asm") reads.Nothing []
row_of Dis = row (codes "dis") reads.Nothing []
row_of Run = row (codes "run") reads.Steps (flag (codes "json") ∷ [])
row_of Trace = row (codes "trace") reads.Steps (flag (codes "states") ∷ flag (codes "json") ∷ [])
row_of Next = row (codes "next") reads.Steps (flag (codes "refused") ∷ flag (codes "states") ∷ flag (codes "json") ∷ [])
row_of Law = row (codes "law") reads.Steps (flag (codes "json") ∷ [])
row_of Debug = row (codes "debug") reads.Script (flag (codes "interactive") ∷ flag (codes "json") ∷ [])
row_of Images = row (codes "images") reads.Steps
    (flag (codes "count") ∷ flag (codes "names") ∷ value (codes "all") ∷ value (codes "some") ∷ value (codes "set")
    ∷ flag (codes "explain-image") ∷ flag (codes "json") ∷ [])
row_of Replay = row (codes "replay") reads.Steps (plan_options ++ flag (codes "lazy") ∷ needed (codes "number") ∷ flag (codes "json") ∷ [])
row_of Check = row (codes "check") reads.Asked
    (value (codes "all") ∷ value (codes "ends") ∷ value (codes "recovered") ∷ flag (codes "images") ∷ flag (codes "before-crash")
    ∷ value (codes "states") ∷ value (codes "only") ∷ flag (codes "show") ∷ flag (codes "names") ∷ flag (codes "as-steps")
    ∷ flag (codes "explain-image") ∷ flag (codes "progress") ∷ flag (codes "json") ∷ [])
row_of Outcomes = row (codes "outcomes") reads.Steps
    (flag (codes "recovered") ∷ value (codes "states") ∷ flag (codes "progress") ∷ flag (codes "json") ∷ [])
row_of Tally = row (codes "tally") reads.Steps
    (schedule_options ++ value (codes "all") ∷ value (codes "ends") ∷ value (codes "recovered") ∷ flag (codes "progress") ∷ flag (codes "json") ∷ [])
row_of Hunt = row (codes "hunt") reads.Steps
    (schedule_options ++ value (codes "cond") ∷ value (codes "all") ∷ value (codes "ends") ∷ value (codes "recovered")
    ∷ flag (codes "lazy") ∷ value (codes "workers")
    ∷ flag (codes "show") ∷ flag (codes "names") ∷ flag (codes "as-steps")
    ∷ flag (codes "explain-image") ∷ flag (codes "progress") ∷ flag (codes "json") ∷ [])
row_of Fences = row (codes "fences") reads.Nothing
    (asked_options ++ value (codes "only") ∷ flag (codes "progress") ∷ flag (codes "json") ∷ [])
row_of Mend = row (codes "mend") reads.Nothing
    (asked_options ++ flag (codes "as-text") ∷ flag (codes "moves") ∷ value (codes "workers") ∷ flag (codes "progress") ∷ flag (codes "json") ∷ [])
row_of Live = row (codes "live") reads.Steps (value (codes "threads") ∷ flag (codes "json") ∷ [])

-- the command of this name
unfoldable pub command_named : Text → Option Command
command_named name = find (λ command. bytes_eq name (row_of command).name) all_commands

-- an option of this name, by what it takes
abbrev pub rule_by : Text → Takes → Rule
rule_by name takes.Nothing = flag name
rule_by name (takes.Value said) = value name
rule_by name (takes.Needed said) = needed name

-- what the parser is told of an option; its help is no part of that
abbrev pub rule_of : CommandOption → Rule
rule_of option = rule_by option.name.now option.takes

-- a row of the code, without its help
abbrev pub told_row : CommandRow → Row
told_row row = record { name = row.name.now; reads = row.reads; options = map rule_of row.options.now }

-- with these options
abbrev pub with_rules : App → List Rule → App
with_rules app rules = fold with_rule app rules

-- the options of all commands
abbrev pub common_options : List Rule
common_options = flag (codes "explain") ∷ value (codes "format") ∷ []

-- a command of this row: it takes FILE, `--explain`, `--format`, what its steps come from, and its options
abbrev pub app_of_row : Row → App
app_of_row row =
    with_rules (with_rules (with_rules (with_rule (new_app row.name) (file_argument row.reads)) common_options) (input_options row.reads)) row.options

-- it has a version and no command `help`, and it requires a command
abbrev pub with_settings : App → App
with_settings app = record app { top = record app.top { has_version = true; disable_help_subcommand = true; subcommand_required = true } }

-- the program without its commands, which takes `--explain` too
abbrev pub program_alone : App
program_alone = with_rule (with_settings (new_app (codes "px86"))) (flag (codes "explain"))

-- a program with one more command
abbrev pub with_command : App → Command → App
with_command app command = with_subcommand app (app_of_row (row_of command)).top

-- a program with these commands
abbrev pub with_commands : App → List Command → App
with_commands app commands = fold with_command app commands

-- the whole command line
abbrev pub command_line : App
command_line = with_commands program_alone all_commands
