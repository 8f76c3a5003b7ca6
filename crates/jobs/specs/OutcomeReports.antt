-- The report of `outcomes`.
use Rattle.std.specs.Prelude.{◌≡◌, ℕ, zero, suc, ◌+◌, ◌==◌, Bool, if◌then◌else◌, List, [], ◌++◌, codes, decimal, drop, length, slice_index}
use Rattle.std.specs.List.{flat_map}
use Rattle.lines_layout.specs.Layouts.{NamedLines}
use Rattle.lines_layout.specs.Names.{Text}
use Rattle.explore.specs.declared.verdict.Verdict.{Verdict}
use Rattle.explore.specs.declared.verdict.Verdict.TheVariants.{Holds, Fails}
use Rattle.explore.specs.Findings.{Findings}
use Rattle.explore.specs.Outcomes.{AreOutcomes}
use Rattle.commands.specs.declared.jobs.OutcomesOptions.{OutcomesOptions}
use Rattle.commands.specs.declared.status.Status.TheVariants.{Done}
use Rattle.commands.specs.ImageTexts.{line}
use Rattle.commands.specs.OutcomeTexts.{named_texts, names_of, registers_text}
use Rattle.commands.specs.Serving.{Report}
use Rattle.jobs.specs.declared.start.Start.{Start}

-- how many numbers an outcome has of each processor: those of its trap, and its registers
abbrev pub processor_numbers : ℕ
processor_numbers = 10

-- how many of them are of its trap: whether there is one, and its address
abbrev pub trap_numbers : ℕ
trap_numbers = 2

-- where processor p is trapped, if it is: the first number tells whether
abbrev pub trap_text : ℕ → ℕ → ℕ → Text
trap_text p trapped address = if trapped == 0 then [] else (codes " " ++ decimal p ++ codes ":trap=" ++ decimal address)

-- processor p, whose numbers are the first of these
abbrev pub processor_text : ℕ → List ℕ → Text
processor_text p numbers = trap_text p (slice_index numbers 0) (slice_index numbers 1) ++ registers_text p (drop trap_numbers numbers)

-- the value of a word
abbrev pub word_text : Text → ℕ → Text
word_text name value = codes " " ++ name ++ codes "=" ++ decimal value

-- an outcome of so many processors, of which the first has the number p: each processor, and then each word
abbrev pub numbers_text : NamedLines → ℕ → ℕ → List ℕ → Text
numbers_text layout zero p numbers = named_texts word_text (names_of layout) numbers
numbers_text layout (suc others) p numbers = processor_text p numbers ++ numbers_text layout others (p + 1) (drop processor_numbers numbers)

-- the line of an outcome
abbrev pub outcome_text : NamedLines → ℕ → List ℕ → Text
outcome_text layout processors outcome = line (codes "outcome" ++ numbers_text layout processors 0 outcome)

-- a line for each outcome, and how many there are
abbrev pub outcomes_text : NamedLines → ℕ → List (List ℕ) → Text
outcomes_text layout processors outcomes = flat_map (outcome_text layout processors) outcomes ++ line (codes "outcomes " ++ decimal (length outcomes))

-- the outcomes that are asked for: those after a crash, or those before the first one
abbrev pub asked_outcomes : Bool → Findings → List (List ℕ)
asked_outcomes recovered found = if recovered then found.recovered else found.ends

-- where no condition is asked, none fails
abbrev pub outcomes_asked : Bool → Verdict → List (List ℕ)
outcomes_asked recovered (Holds found) = asked_outcomes recovered found
outcomes_asked recovered (Fails failure) = []

-- the report of a verdict
abbrev pub outcomes_report : OutcomesOptions → Start → Verdict → Report
outcomes_report options start verdict =
    record { text = outcomes_text start.object.layout (length start.object.processors) (outcomes_asked options.recovered verdict); status = Done }

-- What is listed is each outcome of the ends that runs reach, after a crash or before the first one, the given steps
-- included: each once, ascending, and nothing else.
abbrev pub IsListOfEnds : Bool → Start → Report → Type 0
IsListOfEnds recovered start report =
    (outcomes : List (List ℕ)) × AreOutcomes recovered recovered start.machine outcomes
    × (report.text ≡ outcomes_text start.object.layout (length start.object.processors) outcomes)
