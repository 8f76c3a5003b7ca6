-- The reports of `check` and `outcomes` as JSON.
use Rattle.std.specs.Prelude.{◌≡◌, ℕ, zero, suc, ◌+◌, ◌==◌, Bool, true, false, if◌then◌else◌, Option, is_some, List, [], ◌∷◌, ◌++◌, codes, drop, length, map, slice_index}
use Rattle.lines_layout.specs.Layouts.{NamedLines}
use Rattle.lines_layout.specs.Names.{Text}
use Rattle.isa.specs.declared.instr.Instr.{Instr}
use Rattle.isa.specs.declared.programs.Programs.{Programs}
use Rattle.causes.specs.declared.told.Told.{Told}
use Rattle.causes.specs.Enough.{told_of}
use Rattle.explore.specs.declared.question.Question.{Question}
use Rattle.explore.specs.declared.verdict.Asked.{Asked}
use Rattle.explore.specs.declared.verdict.Asked.TheVariants.{All, Ends, Recovered}
use Rattle.explore.specs.declared.verdict.Failure.{Failure}
use Rattle.explore.specs.declared.verdict.Verdict.{Verdict}
use Rattle.explore.specs.declared.verdict.Verdict.TheVariants.{Holds, Fails}
use Rattle.explore.specs.Findings.{Findings}
use Rattle.commands.specs.declared.jobs.CheckOptions.{CheckOptions}
use Rattle.commands.specs.declared.jobs.OutcomesOptions.{OutcomesOptions}
use Rattle.commands.specs.declared.status.Status.TheVariants.{Done, Unmet}
use Rattle.commands.specs.Serving.{Command, Report}
use Rattle.jobs.specs.declared.start.Start.{Start}
use Rattle.jobs.specs.declared.explained.CrashTold.{CrashTold}
use Rattle.jobs.specs.declared.explained.Explained.{Explained}
use Rattle.jobs.specs.CheckReports.{Explains, asked_name, asks_why, found_status, has_run, holding}
use Rattle.jobs.specs.OutcomeReports.{outcomes_asked, processor_numbers, trap_numbers}
use Rattle.jobs.specs.RunCommands.{exploring}
use Rattle.jobs.specs.Starts.{check_start, exactly, outcomes_start}
use Rattle.json_texts.specs.Objects.{Tree, boolean, header, list, null, num, nums, obj, or_null, word}
use Rattle.json_texts.specs.ImageData.{images_data, names_data}
use Rattle.json_texts.specs.ReasonData.{told_data}
use Rattle.json_texts.specs.RegisterData.{values_data}
use Rattle.json_texts.specs.SourceMaps.{SourceMap}
use Rattle.json_texts.specs.StepData.{site_data, steps_data}
use Rattle.json_texts.specs.StepLines.{step_lines_data}
use Rattle.json_texts.specs.ValueReports.{value_report}
use Rattle.json_jobs.specs.JsonReports.{source_of}

-- ---- check: all hold

-- how a condition stands, where it is asked for
abbrev pub stands : Bool → Text → Tree
stands asked said = if asked then word said else null

-- the conditions; of one that is asked of no state it says so
abbrev pub conditions_data : Question → Findings → Tree
conditions_data question found =
    obj ((codes "all", stands (is_some question.all) (codes "holds"))
    ∷ (codes "ends", stands (is_some question.ends) (holding (length found.ends)))
    ∷ (codes "recovered", stands (is_some question.recovered) (holding (length found.recovered))) ∷ [])

-- how many ends there are after a crash, where runs crash
abbrev pub recovered_ends : Bool → ℕ → Tree
recovered_ends crashes ends = if crashes then num ends else null

-- an instruction, unless some run executes it
abbrev pub never_at : SourceMap → Findings → ℕ → Bool → ℕ → Instr → List Tree
never_at source found p recovery place instr = if has_run found p recovery place then [] else site_data source p recovery place instr ∷ []

-- those of a program's instructions from a place on that no run executes
abbrev pub never_in : SourceMap → Findings → ℕ → Bool → ℕ → List Instr → List Tree
never_in source found p recovery place [] = []
never_in source found p recovery place (instr ∷ later) = never_at source found p recovery place instr ++ never_in source found p recovery (place + 1) later

-- those of the recovery program, where runs crash
abbrev pub never_recovering : SourceMap → Findings → Bool → ℕ → List Instr → List Tree
never_recovering source found crashes p recovery = if crashes then never_in source found p true 0 recovery else []

-- those of processor p
abbrev pub never_of : SourceMap → Findings → Bool → ℕ → Programs → List Tree
never_of source found crashes p programs = never_in source found p false 0 programs.main ++ never_recovering source found crashes p programs.recovery

-- those of processors, of which the first has the number p
abbrev pub nevers_from : SourceMap → Findings → Bool → ℕ → List Programs → List Tree
nevers_from source found crashes p [] = []
nevers_from source found crashes p (programs ∷ others) = never_of source found crashes p programs ++ nevers_from source found crashes (p + 1) others

-- the names of the words of a program, and the lines of its instructions
abbrev pub source_at : Start → SourceMap
source_at start = source_of start.object start.given.lines

-- those of all programs, each with its line
abbrev pub nevers_data : Start → Findings → Tree
nevers_data start found = list (nevers_from (source_at start) found start.question.crashes 0 start.object.processors)

-- the images, where they are asked for
abbrev pub images_asked : Bool → List (List ℕ) → Tree
images_asked asked images = if asked then images_data images else null

-- what is said where all conditions hold
abbrev pub found_data : Start → Findings → Tree
found_data start found =
    obj (header (codes "check")
    ++ (codes "holds", boolean true) ∷ (codes "conditions", conditions_data start.question found) ∷ (codes "states", num found.states)
    ∷ (codes "ends", num (length found.ends)) ∷ (codes "recovered_ends", recovered_ends start.question.crashes (length found.recovered))
    ∷ (codes "never_ran", nevers_data start found)
    ∷ (codes "words", names_data start.object.layout) ∷ (codes "images", images_asked start.question.images found.images) ∷ [])

-- ---- check: one fails

-- a write that is missing, and whether it is told that it alone is enough
abbrev pub one_told : SourceMap → Told → Tree
one_told source told = told_data source told.write told.enough

-- writes that are missing, in their order
abbrev pub all_told : SourceMap → List Told → Tree
all_told source told = list (map (one_told source) told)

-- the writes that are missing in an image, if it is one of the state
abbrev pub missing_there : Start → Option (List Told) → Tree
missing_there start told = or_null (all_told (source_at start)) told

-- a crash: its place among the steps of the run, what it left, and the writes that are missing there
abbrev pub crash_told : ℕ → Tree → Tree → Tree
crash_told place image missing = obj ((codes "step", num place) ∷ (codes "image", image) ∷ (codes "missing", missing) ∷ [])

-- the same of what is told of a crash
abbrev pub crash_data : Start → CrashTold → Tree
crash_data start crash = crash_told crash.place (nums crash.image) (missing_there start (told_of crash.missing))

-- all crashes of the run
abbrev pub crashes_data : Start → List CrashTold → Tree
crashes_data start crashes = list (map (crash_data start) crashes)

-- the writes that are missing in the image that breaks the condition
abbrev pub image_missing : Start → Explained → Tree
image_missing start told = missing_there start (told_of told.last)

-- the same of a condition of images alone: that of an end is of no image
abbrev pub last_missing : Start → Explained → Asked → Tree
last_missing start told All = image_missing start told
last_missing start told Ends = null
last_missing start told Recovered = null

-- what explains a run that crashes
abbrev pub crashes_explained : Start → Failure → Explained → Tree
crashes_explained start failure told =
    obj ((codes "crashes", crashes_data start told.crashes.items) ∷ (codes "missing", last_missing start told failure.asked) ∷ [])

-- what explains the image that breaks the condition
abbrev pub image_explained : Start → Explained → Tree
image_explained start told = obj ((codes "missing", image_missing start told) ∷ [])

-- what explains a run that does not crash
abbrev pub last_explained : Start → Explained → Asked → Tree
last_explained start told All = image_explained start told
last_explained start told Ends = null
last_explained start told Recovered = null

-- what explains a run
abbrev pub explained_by : Start → Failure → Explained → Tree
explained_by start failure told =
    if length told.crashes.items == 0 then last_explained start told failure.asked else crashes_explained start failure told

-- the same where it is asked why the run breaks the condition
abbrev pub explained : CheckOptions → Start → Failure → Explained → Tree
explained options start failure told = if asks_why options then explained_by start failure told else null

-- the lines of the instructions that the steps of the run execute
abbrev pub run_lines : Start → Failure → Tree
run_lines start failure = step_lines_data start.given.lines failure.run start.machine

-- which it is, with the values of the words, the steps of the run with their lines, and what explains it
abbrev pub failure_data : CheckOptions → Start → Failure → Explained → Tree
failure_data options start failure told =
    obj (header (codes "check")
    ++ (codes "holds", boolean false) ∷ (codes "condition", word (asked_name failure.asked)) ∷ (codes "words", names_data start.object.layout)
    ∷ (codes "values", nums failure.values) ∷ (codes "steps", steps_data failure.run)
    ∷ (codes "lines", run_lines start failure)
    ∷ (codes "explained", explained options start failure told) ∷ [])

-- ---- the report of a verdict

-- with the status that it has without JSON
abbrev pub found_report : Start → Findings → Report
found_report start found = value_report (found_data start found) (found_status start.question found)

abbrev pub failed_report : CheckOptions → Start → Failure → Explained → Report
failed_report options start failure told = value_report (failure_data options start failure told) Unmet

-- What may be reported of a verdict, as without JSON.
abbrev pub MayReport : CheckOptions → Start → Verdict → Report → Type 0
MayReport options start (Holds found) report = report ≡ found_report start found
MayReport options start (Fails failure) report =
    (told : Explained) × Explains options start failure told × (report ≡ failed_report options start failure told)

-- what is asked of `check`
pub record CheckJson : Type 0 where
  pub options : CheckOptions

-- check --json
unfoldable pub check_command : CheckOptions → Command
check_command options = exploring (check_start options) (MayReport options) options.states

-- ---- outcomes

-- where a processor is trapped, if it is
abbrev pub trap_data : ℕ → ℕ → Tree
trap_data trapped address = if trapped == 0 then null else num address

-- processor p, whose numbers are the first of these
abbrev pub processor_data : ℕ → List ℕ → Tree
processor_data p numbers =
    obj ((codes "cpu", num p) ∷ (codes "trap", trap_data (slice_index numbers 0) (slice_index numbers 1))
    ∷ (codes "registers", values_data (drop trap_numbers numbers)) ∷ [])

-- so many processors, of which the first has the number p
abbrev pub processors_from : ℕ → ℕ → List ℕ → List Tree
processors_from zero p numbers = []
processors_from (suc others) p numbers = processor_data p numbers ∷ processors_from others (p + 1) (drop processor_numbers numbers)

-- what is behind the numbers of so many processors: the values of the words
abbrev pub behind_processors : ℕ → List ℕ → List ℕ
behind_processors zero numbers = numbers
behind_processors (suc others) numbers = behind_processors others (drop processor_numbers numbers)

-- an outcome of so many processors: each of them, and the value of each word
abbrev pub outcome_data : ℕ → List ℕ → Tree
outcome_data processors outcome =
    obj ((codes "cpus", list (processors_from processors 0 outcome)) ∷ (codes "values", nums (behind_processors processors outcome)) ∷ [])

-- outcomes, and the names of the words
abbrev pub outcomes_data : NamedLines → ℕ → List (List ℕ) → Tree
outcomes_data names processors outcomes =
    obj (header (codes "outcomes") ++ (codes "words", names_data names) ∷ (codes "outcomes", list (map (outcome_data processors) outcomes)) ∷ [])

-- the report of a verdict
abbrev pub outcomes_report : Bool → Start → Verdict → Report
outcomes_report recovered start verdict =
    value_report (outcomes_data start.object.layout (length start.object.processors) (outcomes_asked recovered verdict)) Done

-- outcomes --json
unfoldable pub outcomes_command : OutcomesOptions → Command
outcomes_command options = exploring (outcomes_start options) (exactly (outcomes_report options.recovered)) options.states
