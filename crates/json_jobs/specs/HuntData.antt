-- The report of `hunt` as JSON.
use Rattle.std.specs.Prelude.{ℕ, if◌then◌else◌, Option, Some, None, List, [], ◌∷◌, ◌++◌, codes}
use Rattle.pending_images.specs.declared.total.Count.TheVariants.{More}
use Rattle.hunt.specs.declared.loss.Breach.{Breach}
use Rattle.hunt.specs.declared.loss.Breach.TheVariants.{Leaves, TooMany}
use Rattle.hunt.specs.declared.loss.Moment.{Moment}
use Rattle.image_reasons.specs.Reasons.{missing_after}
use Rattle.commands.specs.Serving.{Report}
use Rattle.commands.specs.declared.jobs.HuntOptions.{HuntOptions}
use Rattle.commands.specs.declared.status.Status.{Status}
use Rattle.commands.specs.declared.status.Status.TheVariants.{Unmet}
use Rattle.thread_jobs.specs.declared.found.Found.{Found}
use Rattle.thread_jobs.specs.Founds.{steps_found, steps_to}
use Rattle.thread_jobs.specs.HuntReports.{explains_image, none_status}
use Rattle.thread_jobs.specs.HuntStarts.{HuntStart}
use Rattle.json_texts.specs.Objects.{Field, Tree, header, null, num, nums, obj, or_null}
use Rattle.json_texts.specs.ImageData.{candidates_data, names_data}
use Rattle.json_texts.specs.ReasonData.{explained_data}
use Rattle.json_texts.specs.SourceMaps.{SourceMap}
use Rattle.json_texts.specs.StepData.{steps_data}
use Rattle.json_texts.specs.StepLines.{step_lines_data}
use Rattle.json_texts.specs.ValueReports.{value_report}

-- a turn, and what breaks the condition after it: an image, or that there are too many candidates
abbrev pub breach_fields : ℕ → Breach → List Field
breach_fields turn (Leaves image) = (codes "turn", num turn) ∷ (codes "image", nums image) ∷ (codes "candidates", null) ∷ []
breach_fields turn TooMany = (codes "turn", num turn) ∷ (codes "image", null) ∷ (codes "candidates", candidates_data More) ∷ []

-- that nothing is told of a turn
abbrev pub no_turn : List Field
no_turn = (codes "turn", null) ∷ (codes "image", null) ∷ (codes "candidates", null) ∷ []

-- the turn after which a crash may leave what breaks the condition, where that is asked, and what does
abbrev pub turn_fields : ℕ → Option Breach → List Field
turn_fields turn None = no_turn
turn_fields turn (Some breach) = breach_fields turn breach

-- the lines of the instructions that the steps of the schedule execute, up to the turn
abbrev pub schedule_lines : HuntStart → Moment → Tree
schedule_lines start at = step_lines_data start.lines (steps_found start at) start.state

-- the number of the schedule that was found, its steps up to the turn with their lines, and what is told of the turn
abbrev pub least_fields : HuntStart → Found → List Field
least_fields start found =
    (codes "least", num found.at.number) ∷ (codes "steps", steps_data (steps_found start found.at)) ∷ (codes "lines", schedule_lines start found.at)
    ∷ turn_fields found.at.turn found.breach

-- that none was found
abbrev pub none_fields : List Field
none_fields = (codes "least", null) ∷ (codes "steps", null) ∷ (codes "lines", null) ∷ no_turn

-- one or the other
abbrev pub found_fields : HuntStart → Option Found → List Field
found_fields start None = none_fields
found_fields start (Some found) = least_fields start found

-- the names of the words of a program, and the lines of its instructions
abbrev pub source_in : HuntStart → SourceMap
source_in start = record { names = start.object.layout; lines = start.lines }

-- the writes that are missing in the image that breaks the condition
abbrev pub image_explained : HuntStart → Moment → List ℕ → Tree
image_explained start at image = explained_data (source_in start) (missing_after start.object (steps_to start at) image)

-- the same, where it is an image
abbrev pub breach_explained : HuntStart → Moment → Option Breach → Tree
breach_explained start at None = null
breach_explained start at (Some TooMany) = null
breach_explained start at (Some (Leaves image)) = image_explained start at image

-- the same, where a schedule was found
abbrev pub found_explained : HuntStart → Option Found → Tree
found_explained start None = null
found_explained start (Some found) = breach_explained start found.at found.breach

-- the same, where the image is to be explained
abbrev pub explained : HuntOptions → HuntStart → Option Found → Tree
explained options start found = if explains_image options then found_explained start found else null

-- of how many schedules it is told how many come to an end
abbrev pub of_data : ℕ → Option ℕ → Tree
of_data runs None = null
of_data runs (Some ended) = num runs

-- the names of the words, what explains the image, how many schedules come to an end, where ends are asked and no schedule was found,
-- and what a hunt found
abbrev pub hunt_data : HuntOptions → HuntStart → Option Found → Option ℕ → Tree
hunt_data options start found ended =
    obj (header (codes "hunt") ++ (codes "words", names_data start.object.layout)
    ∷ (codes "explained", explained options start found) ∷ (codes "ended", or_null num ended)
    ∷ (codes "of", of_data start.schedules.runs ended) ∷ found_fields start found)

-- whether it found nothing, and something was asked
abbrev pub hunt_status : Option Found → Option ℕ → Status
hunt_status None ended = none_status ended
hunt_status (Some found) ended = Unmet

-- the same as a report
abbrev pub hunt_report : HuntOptions → HuntStart → Option Found → Option ℕ → Report
hunt_report options start found ended = value_report (hunt_data options start found ended) (hunt_status found ended)
