-- The reports of `tally` as JSON.
use Rattle.std.specs.Prelude.{ℕ, ◌+◌, List, [], ◌∷◌, ◌++◌, codes, map}
use Rattle.lines_layout.specs.Layouts.{NamedLines}
use Rattle.lines_layout.specs.Names.{Text}
use Rattle.hunt.specs.Outcomes.{Observed}
use Rattle.hunt.specs.declared.loss.Moment.{Moment}
use Rattle.hunt.specs.declared.end_counts.EndCounts.{EndCounts}
use Rattle.hunt.specs.declared.losses.Losses.{Losses}
use Rattle.hunt.specs.declared.observed.WordPair.{WordPair}
use Rattle.commands.specs.OutcomeTexts.{names_of}
use Rattle.commands.specs.Serving.{Report}
use Rattle.commands.specs.declared.status.Status.TheVariants.{Done}
use Rattle.json_texts.specs.Objects.{Tree, header, list, null, num, obj, or_null, word}
use Rattle.json_texts.specs.RegisterData.{values_data}
use Rattle.json_texts.specs.ValueReports.{value_report}

-- processor p, whose registers have these values
abbrev pub cpu_data : ℕ → List ℕ → Tree
cpu_data p values = obj ((codes "cpu", num p) ∷ (codes "registers", values_data values) ∷ [])

-- processors, of which the first has the number p
abbrev pub cpus_from : ℕ → List (List ℕ) → List Tree
cpus_from p [] = []
cpus_from p (values ∷ others) = cpu_data p values ∷ cpus_from (p + 1) others

-- a word of this name
abbrev pub pair_data : Text → WordPair → Tree
pair_data name pair = obj ((codes "word", word name) ∷ (codes "coherent", num pair.coherent) ∷ (codes "persisted", num pair.persisted) ∷ [])

-- words, each of a name and its values, as far as there are both
abbrev pub pairs_data : List Text → List WordPair → List Tree
pairs_data [] pairs = []
pairs_data (name ∷ names) [] = []
pairs_data (name ∷ names) (pair ∷ pairs) = pair_data name pair ∷ pairs_data names pairs

-- an outcome, and how often it comes
abbrev pub outcome_data : NamedLines → Observed × ℕ → Tree
outcome_data layout entry =
    obj ((codes "count", num entry.1) ∷ (codes "cpus", list (cpus_from 0 entry.0.registers))
    ∷ (codes "words", list (pairs_data (names_of layout) entry.0.words)) ∷ [])

-- the outcomes of a tally
abbrev pub tally_data : NamedLines → List (Observed × ℕ) → Tree
tally_data layout tally = obj (header (codes "tally") ++ (codes "outcomes", list (map (outcome_data layout) tally)) ∷ [])

-- the same as a report
abbrev pub tally_report : NamedLines → List (Observed × ℕ) → Report
tally_report layout tally = value_report (tally_data layout tally) Done

-- a schedule, and a turn of it
abbrev pub moment_data : Moment → Tree
moment_data at = obj ((codes "number", num at.number) ∷ (codes "turn", num at.turn) ∷ [])

-- how many of so many schedules break the condition, and the first of them
abbrev pub losses_data : ℕ → Losses → Tree
losses_data runs losses =
    obj (header (codes "tally") ++ (codes "broken", num losses.broken) ∷ (codes "of", num runs) ∷ (codes "first", or_null moment_data losses.first) ∷ [])

-- the same as a report
abbrev pub losses_report : ℕ → Losses → Report
losses_report runs losses = value_report (losses_data runs losses) Done

-- a schedule that comes to an end: no turn of it is told
abbrev pub number_data : ℕ → Tree
number_data number = obj ((codes "number", num number) ∷ (codes "turn", null) ∷ [])

-- how many of so many schedules break the condition at an end, how many come to one, and the first of those that break it
abbrev pub ends_data : ℕ → EndCounts → Tree
ends_data runs counts =
    obj (header (codes "tally") ++ (codes "broken", num counts.broken) ∷ (codes "of", num runs) ∷ (codes "ended", num counts.ended)
    ∷ (codes "first", or_null number_data counts.first) ∷ [])

-- the same as a report
abbrev pub ends_report : ℕ → EndCounts → Report
ends_report runs counts = value_report (ends_data runs counts) Done
