-- What a hunt found as text, and how many schedules break a condition.
use Rattle.std.specs.Prelude.{ℕ, Bool, not, ◌&&◌, ◌||◌, ◌==◌, if◌then◌else◌, Option, Some, None, List, [], ◌∷◌, ◌++◌, codes}
use Rattle.std.specs.Fmt.{decimal}
use Rattle.lines_layout.specs.Layouts.{NamedLines}
use Rattle.lines_layout.specs.Names.{Text}
use Rattle.schedule.specs.Written.{steps_text}
use Rattle.text_tokens.specs.Text.{line_feed}
use Rattle.pending_images.specs.declared.total.Count.TheVariants.{More}
use Rattle.hunt.specs.declared.loss.Breach.{Breach}
use Rattle.hunt.specs.declared.loss.Breach.TheVariants.{Leaves, TooMany}
use Rattle.hunt.specs.declared.loss.Moment.{Moment}
use Rattle.hunt.specs.declared.end_counts.EndCounts.{EndCounts}
use Rattle.hunt.specs.declared.losses.Losses.{Losses}
use Rattle.commands.specs.declared.jobs.Demand.{Demand}
use Rattle.commands.specs.declared.jobs.Demand.TheVariants.{All, Cond, Ends, Recovered}
use Rattle.commands.specs.declared.jobs.HuntOptions.{HuntOptions}
use Rattle.commands.specs.declared.status.Status.{Status}
use Rattle.commands.specs.declared.status.Status.TheVariants.{Done, Unmet}
use Rattle.commands.specs.ImageTexts.{candidates_text, image_text, names_shown}
use Rattle.commands.specs.MissingTexts.{image_explained}
use Rattle.commands.specs.Serving.{Report}
use Rattle.thread_jobs.specs.declared.found.Found.{Found}
use Rattle.thread_jobs.specs.Founds.{steps_found, steps_to}
use Rattle.thread_jobs.specs.HuntStarts.{HuntStart}

-- whether the steps of the schedule that was found are asked for, with what else is reported of it or alone
abbrev pub asks_steps : HuntOptions → Bool
asks_steps options = options.show || options.as_steps

-- the word of the option that asks for ends
abbrev pub ends_word : Demand → Text
ends_word (Recovered text) = codes "recovered"
ends_word (Ends text) = codes "ends"
ends_word (Cond text) = codes "ends"
ends_word (All text) = codes "ends"

-- how many of so many schedules come to an end
abbrev pub ended_text : ℕ → ℕ → Text
ended_text runs ended = codes "ended " ++ decimal ended ++ codes " of " ++ decimal runs ++ line_feed ∷ []

-- that none of the schedules comes to an end
abbrev pub unasked_text : Demand → Text
unasked_text demand = ends_word demand ++ codes " asked of no state" ++ line_feed ∷ []

-- what is said where nothing was found, by how many schedules come to an end, where ends are asked
abbrev pub none_text : Demand → ℕ → Option ℕ → Text
none_text demand runs None = codes "none" ++ line_feed ∷ []
none_text demand runs (Some ended) = if ended == 0 then unasked_text demand else codes "none" ++ line_feed ∷ ended_text runs ended

-- whether nothing was found, and something was asked
abbrev pub none_status : Option ℕ → Status
none_status None = Done
none_status (Some ended) = if ended == 0 then Unmet else Done

-- what is reported where nothing was found: there are no steps
abbrev pub none_report : HuntOptions → ℕ → Option ℕ → Report
none_report options runs ended = record { text = if options.as_steps then [] else none_text options.demand runs ended; status = none_status ended }

-- what breaks the condition: an image, below the names of the words where they are asked for; or that there are too many candidates
abbrev pub breach_text : Bool → NamedLines → Breach → List ℕ
breach_text named names (Leaves image) = names_shown named names ++ image_text image
breach_text named names TooMany = candidates_text More

-- the turn after which a crash may leave what breaks the condition, where that is asked, and what does
abbrev pub crash_text : Bool → NamedLines → ℕ → Option Breach → List ℕ
crash_text named names turn None = []
crash_text named names turn (Some breach) = codes "turn " ++ decimal turn ++ line_feed ∷ breach_text named names breach

-- the number of the schedule that was found, and what is told of its turn
abbrev pub least_text : Bool → NamedLines → Found → List ℕ
least_text named names found = codes "least " ++ decimal found.at.number ++ line_feed ∷ crash_text named names found.at.turn found.breach

-- what is shown of the schedule that was found: its steps up to the turn, where they are asked for
abbrev pub shown_text : HuntOptions → HuntStart → Moment → List ℕ
shown_text options start at = if asks_steps options then steps_text (steps_found start at) else []

-- whether an image that was found is explained; it is not where the steps alone are reported
abbrev pub explains_image : HuntOptions → Bool
explains_image options = options.explains_image && not options.as_steps

-- which writes are missing in the image that breaks the condition, and why each may be
abbrev pub explanation : HuntStart → Moment → List ℕ → Text
explanation start at image = image_explained start.object start.lines (steps_to start at) image

-- the same, where it is an image
abbrev pub breach_explained : HuntStart → Moment → Option Breach → Text
breach_explained start at None = []
breach_explained start at (Some TooMany) = []
breach_explained start at (Some (Leaves image)) = explanation start at image

-- the same where it is asked for
abbrev pub explained : HuntOptions → HuntStart → Found → Text
explained options start found = if explains_image options then breach_explained start found.at found.breach else []

-- what is shown of a schedule, and what explains the image
abbrev pub behind_least : HuntOptions → HuntStart → Found → Text
behind_least options start found = shown_text options start found.at ++ explained options start found

-- what is told of a schedule that was found, and what is behind it
abbrev pub whole_text : HuntOptions → HuntStart → Found → Text
whole_text options start found = least_text options.names start.object.layout found ++ behind_least options start found

-- the same, or what is shown of it alone
abbrev pub found_text : HuntOptions → HuntStart → Found → Text
found_text options start found = if options.as_steps then shown_text options start found.at else whole_text options start found

-- what is reported of what a hunt found, or that it found nothing
abbrev pub found_report : HuntOptions → HuntStart → Option Found → Option ℕ → Report
found_report options start None ended = none_report options start.schedules.runs ended
found_report options start (Some found) ended = record { text = found_text options start found; status = Unmet }

-- the first schedule that breaks the condition, and the least turn after which it does
abbrev pub first_text : Option Moment → List ℕ
first_text None = []
first_text (Some at) = codes "first " ++ decimal at.number ++ codes " " ++ decimal at.turn ++ line_feed ∷ []

-- how many of so many schedules break the condition, and the first of them
abbrev pub losses_text : ℕ → Losses → List ℕ
losses_text runs losses = codes "broken " ++ decimal losses.broken ++ codes " of " ++ decimal runs ++ line_feed ∷ first_text losses.first

-- the first schedule that breaks the condition at an end
abbrev pub first_end_text : Option ℕ → List ℕ
first_end_text None = []
first_end_text (Some number) = codes "first " ++ decimal number ++ line_feed ∷ []

-- how many of so many schedules break the condition at an end, how many come to one, and the first of those that break it
abbrev pub ends_text : ℕ → EndCounts → List ℕ
ends_text runs counts =
    codes "broken " ++ decimal counts.broken ++ codes " of " ++ decimal runs ++ line_feed ∷ ended_text runs counts.ended ++ first_end_text counts.first
