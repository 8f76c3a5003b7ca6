-- The report of `check`.
use Rattle.std.specs.Prelude.{◌≡◌, ◌⊎◌, Option, Some, ℕ, ◌+◌, ◌==◌, Bool, true, false, not, ◌&&◌, ◌||◌, if◌then◌else◌, is_some, List, [], ◌∷◌, ◌++◌, bytes_eq, codes, decimal, length}
use Rattle.std.specs.List.{flat_map, list_any}
use Rattle.lines_layout.specs.Layouts.{NamedLines}
use Rattle.lines_layout.specs.Names.{Text}
use Rattle.isa.specs.declared.instr.Instr.{Instr}
use Rattle.isa.specs.declared.programs.Programs.{Programs}
use Rattle.litmus_text.specs.Rows.{row_text}
use Rattle.litmus_text.specs.Written.{instruction_row}
use Rattle.schedule.specs.Written.{steps_text}
use Rattle.machine.specs.State.{State}
use Rattle.conditions.specs.Formulas.{Formula}
use Rattle.image_reasons.specs.declared.missing.Missing.{Missing}
use Rattle.image_reasons.specs.Reasons.{missing_after}
use Rattle.explore.specs.declared.question.Question.{Question}
use Rattle.explore.specs.declared.verdict.Asked.{Asked}
use Rattle.explore.specs.declared.verdict.Asked.TheVariants.{All, Ends, Recovered}
use Rattle.explore.specs.declared.verdict.Failure.{Failure}
use Rattle.explore.specs.declared.verdict.Verdict.{Verdict}
use Rattle.explore.specs.declared.verdict.Verdict.TheVariants.{Holds, Fails}
use Rattle.explore.specs.Ends.{IsEndOf}
use Rattle.explore.specs.Findings.{Findings}
use Rattle.explore.specs.Questions.{FailsBy, IsAnswered}
use Rattle.explore.specs.Ran.{site}
use Rattle.explore.specs.RunImages.{AreImagesOfRuns}
use Rattle.commands.specs.declared.jobs.CheckOptions.{CheckOptions}
use Rattle.commands.specs.declared.status.Status.{Status}
use Rattle.commands.specs.declared.status.Status.TheVariants.{Done, Unmet}
use Rattle.commands.specs.ImageTexts.{images_text, line, names_shown, values_text}
use Rattle.commands.specs.Serving.{Report}
use Rattle.commands.specs.StateTexts.{site_text}
use Rattle.causes.specs.Enough.{told_of}
use Rattle.jobs.specs.declared.explained.CrashTold.{CrashTold}
use Rattle.jobs.specs.declared.explained.Explained.{Explained}
use Rattle.jobs.specs.declared.start.Start.{Start}
use Rattle.jobs.specs.Crashes.{all_steps, crash_left, steps_before}
use Rattle.jobs.specs.Explained.{IsExplanation}
use Rattle.jobs.specs.ToldTexts.{image_told}

-- ---- all hold

-- the condition of every state
abbrev pub all_held : Bool → Text
all_held asked = if asked then line (codes "all holds") else []

-- whether it holds of so many ends: of none it says nothing
abbrev pub holding : ℕ → Text
holding ends = if ends == 0 then codes "asked of no state" else codes "holds"

-- a condition of ends, of which there are so many
abbrev pub ends_held : Text → Bool → ℕ → Text
ends_held name asked ends = if asked then line (name ++ codes " " ++ holding ends) else []

-- the conditions that are asked for, in their order
abbrev pub held_text : Question → Findings → Text
held_text question found =
    all_held (is_some question.all)
    ++ (ends_held (codes "ends") (is_some question.ends) (length found.ends) ++ ends_held (codes "recovered") (is_some question.recovered) (length found.recovered))

-- the ends after a crash, where runs crash
abbrev pub recovered_count : Bool → ℕ → Text
recovered_count crashes ends = if crashes then line (codes "recovered ends " ++ decimal ends) else []

-- how many states were told apart, and how many ends there are before the first crash, and after one
abbrev pub counts_text : Bool → Findings → Text
counts_text crashes found =
    line (codes "states " ++ decimal found.states) ++ (line (codes "ends " ++ decimal (length found.ends)) ++ recovered_count crashes (length found.recovered))

-- whether some run executes the instruction at a place of a program of processor p
abbrev pub has_run : Findings → ℕ → Bool → ℕ → Bool
has_run found p recovery place = list_any (bytes_eq (site p recovery place)) found.ran

-- the line of an instruction that no run executes: where it is, and how it is written
abbrev pub never_line : NamedLines → ℕ → Bool → ℕ → Instr → Text
never_line names p recovery place instr = line (codes "never ran " ++ site_text p recovery place ++ codes " " ++ row_text (instruction_row names instr))

-- the same unless some run executes it
abbrev pub never_text : NamedLines → Findings → ℕ → Bool → ℕ → Instr → Text
never_text names found p recovery place instr = if has_run found p recovery place then [] else never_line names p recovery place instr

-- those of the instructions of a program from a place on
abbrev pub never_in : NamedLines → Findings → ℕ → Bool → ℕ → List Instr → Text
never_in names found p recovery place [] = []
never_in names found p recovery place (instr ∷ later) = never_text names found p recovery place instr ++ never_in names found p recovery (place + 1) later

-- those of the recovery program, where runs crash
abbrev pub never_recovering : NamedLines → Findings → Bool → ℕ → List Instr → Text
never_recovering names found crashes p recovery = if crashes then never_in names found p true 0 recovery else []

-- those of processor p
abbrev pub never_of : NamedLines → Findings → Bool → ℕ → Programs → Text
never_of names found crashes p programs = never_in names found p false 0 programs.main ++ never_recovering names found crashes p programs.recovery

-- those of processors, of which the first has the number p
abbrev pub never_texts : NamedLines → Findings → Bool → ℕ → List Programs → Text
never_texts names found crashes p [] = []
never_texts names found crashes p (programs ∷ others) = never_of names found crashes p programs ++ never_texts names found crashes (p + 1) others

-- the images, where they are asked for; before them the names of the words, where these are too
abbrev pub images_shown : Bool → Bool → NamedLines → List (List ℕ) → Text
images_shown asked named names images = if asked then names_shown named names ++ images_text images else []

-- what is said where all conditions hold
abbrev pub found_text : Bool → Start → Findings → Text
found_text named start found =
    held_text start.question found
    ++ (counts_text start.question.crashes found
    ++ (never_texts start.object.layout found start.question.crashes 0 start.object.processors ++ images_shown start.question.images named start.object.layout found.images))

-- where the steps of a run alone are asked for, nothing is said
abbrev pub held_report : CheckOptions → Start → Findings → Text
held_report options start found = if options.as_steps then [] else found_text options.names start found

-- whether a condition is asked of no state
abbrev pub is_idle : Bool → ℕ → Bool
is_idle asked ends = asked && (ends == 0)

-- where all conditions hold, each is to be asked of some state
abbrev pub found_status : Question → Findings → Status
found_status question found =
    if is_idle (is_some question.ends) (length found.ends) || is_idle (is_some question.recovered) (length found.recovered) then Unmet else Done

-- ---- one fails

-- which condition it is
abbrev pub asked_name : Asked → Text
asked_name All = codes "all"
asked_name Ends = codes "ends"
asked_name Recovered = codes "recovered"

-- whether the steps of the run are asked for, with what else is reported or alone
abbrev pub asks_steps : CheckOptions → Bool
asks_steps options = options.show || options.as_steps

-- the steps of the run, where they are asked for
abbrev pub steps_shown : CheckOptions → Failure → Text
steps_shown options failure = if asks_steps options then steps_text failure.run else []

-- the condition that fails, with the values of the words, and how many steps the run has
abbrev pub failed_text : Failure → Text
failed_text failure = line (asked_name failure.asked ++ codes " fails" ++ values_text failure.values) ++ line (codes "steps " ++ decimal (length failure.run))

-- whether it is asked why the run breaks the condition: not where the steps alone are asked for
abbrev pub asks_why : CheckOptions → Bool
asks_why options = options.explains_image && not options.as_steps

-- the place of a crash among the steps of the run, what it left, and what is said of the writes that are missing there
abbrev pub crash_text : Start → CrashTold → Text
crash_text start crash =
    line (codes "crash " ++ decimal crash.place) ++ image_told start.object.layout start.given.lines crash.image (told_of crash.missing)

-- the same of each crash of the run
abbrev pub crashes_text : Start → Explained → Text
crashes_text start told = flat_map (crash_text start) told.crashes.items

-- what is said of the image that breaks the condition
abbrev pub explanation : Start → Failure → Explained → Text
explanation start failure told = image_told start.object.layout start.given.lines failure.values (told_of told.last)

-- the same of a condition of images alone: that of an end is of no image
abbrev pub last_explained : Start → Failure → Explained → Asked → Text
last_explained start failure told All = explanation start failure told
last_explained start failure told Ends = []
last_explained start failure told Recovered = []

-- what each crash of the run left, and then the image that breaks the condition, where it is asked why
abbrev pub explained : CheckOptions → Start → Failure → Explained → Text
explained options start failure told =
    if asks_why options then crashes_text start told ++ last_explained start failure told failure.asked else []

-- the steps of the run, and what explains it, where these are asked for
abbrev pub behind_failed : CheckOptions → Start → Failure → Explained → Text
behind_failed options start failure told = steps_shown options failure ++ explained options start failure told

-- all that is said, after the names of the words, where these are asked for
abbrev pub whole_failure : CheckOptions → Start → Failure → Explained → Text
whole_failure options start failure told =
    names_shown options.names start.object.layout ++ (failed_text failure ++ behind_failed options start failure told)

-- the same, or the steps alone
abbrev pub failure_text : CheckOptions → Start → Failure → Explained → Text
failure_text options start failure told = if options.as_steps then steps_shown options failure else whole_failure options start failure told

-- ---- the report of a verdict

-- where all conditions hold: status 1 if one is asked of no state
abbrev pub found_report : CheckOptions → Start → Findings → Report
found_report options start found = record { text = held_report options start found; status = found_status start.question found }

-- where one fails, and this explains it
abbrev pub failed_report : CheckOptions → Start → Failure → Explained → Report
failed_report options start failure told = record { text = failure_text options start failure told; status = Unmet }

-- This explains the run, where it is asked why.
abbrev pub Explains : CheckOptions → Start → Failure → Explained → Type 0
Explains options start failure told = asks_why options ≡ true → IsExplanation options.states start failure told

-- What may be reported of a verdict. Which missing writes are told as enough is open, but each that is told is enough.
abbrev pub MayReport : CheckOptions → Start → Verdict → Report → Type 0
MayReport options start (Holds found) report = report ≡ found_report options start found
MayReport options start (Fails failure) report =
    (told : Explained) × Explains options start failure told × (report ≡ failed_report options start failure told)

-- ---- what a status says

-- A condition is asked of ends, and no run leads to one.
abbrev pub IsAskedOfNone : Bool → Bool → Option Formula → State → Type 0
IsAskedOfNone crashes recovered asked start = (is_some asked ≡ true) × ((t : State) → IsEndOf crashes recovered start t → ⊥)

-- A condition that is asked of ends is asked of one at least: some run leads to it.
abbrev pub IsAskedOfSome : Bool → Bool → Option Formula → State → Type 0
IsAskedOfSome crashes recovered asked start = is_some asked ≡ true → (t : State) × IsEndOf crashes recovered start t

-- A run makes a condition false, and the report is of this run, with what explains it where it is asked why.
abbrev pub IsToldFalse : CheckOptions → Start → Report → Type 0
IsToldFalse options start report =
    (failure : Failure) × FailsBy failure.asked start.question start.machine failure.run failure.values
    × ((told : Explained) × Explains options start failure told × (report.text ≡ failure_text options start failure told))

-- Each condition holds, but no run leads to an end that is asked about, and by what was found the report says that the condition is asked of
-- no state.
abbrev pub IsToldIdle : CheckOptions → Start → Report → Type 0
IsToldIdle options start report =
    (found : Findings) × (report.text ≡ held_report options start found) × IsAnswered start.question start.machine
    × ((IsAskedOfNone start.question.crashes false start.question.ends start.machine × (length found.ends ≡ 0))
    ⊎ (IsAskedOfNone start.question.crashes true start.question.recovered start.machine × (length found.recovered ≡ 0)))

-- Why it is not met, and that the report says so.
abbrev pub IsToldWhy : CheckOptions → Start → Report → Type 0
IsToldWhy options start report = IsToldFalse options start report ⊎ IsToldIdle options start report

-- The report ends with a list of the images that a crash may leave in the states that runs reach: each once, ascending, and nothing else.
abbrev pub IsListOfImages : Start → Report → Type 0
IsListOfImages start report =
    (before : Text) × (images : List (List ℕ)) × AreImagesOfRuns start.question.crashes start.machine images × (report.text ≡ before ++ images_text images)

-- Of the image that breaks the condition the missing writes are told: there is a list of them, perhaps an empty one.
abbrev pub IsExplained : Start → Failure → Type 0
IsExplained start failure =
    (missing : List Missing) × (missing_after start.object (all_steps start failure) failure.values ≡ Some missing)

-- Of what a crash at a place of the run leaves the missing writes are told: there is a list of them, perhaps an empty one.
abbrev pub IsCrashExplained : Start → Failure → ℕ → Type 0
IsCrashExplained start failure place =
    (missing : List Missing) × (missing_after start.object (steps_before start failure place) (crash_left start failure place) ≡ Some missing)
