-- In which form it is reported what schedules come to.
use Rattle.std.specs.Prelude.{ℕ, Option, List}
use Rattle.lines_layout.specs.Layouts.{NamedLines}
use Rattle.hunt.specs.Outcomes.{Observed}
use Rattle.hunt.specs.declared.end_counts.EndCounts.{EndCounts}
use Rattle.hunt.specs.declared.losses.Losses.{Losses}
use Rattle.commands.specs.declared.jobs.HuntOptions.{HuntOptions}
use Rattle.commands.specs.Serving.{Report}
use Rattle.thread_jobs.specs.declared.found.Found.{Found}
use Rattle.thread_jobs.specs.HuntStarts.{HuntStart}

-- the report of each thing that is found
pub record ReportForm : Type 0 where
  -- how schedules end, and how often each way
  pub of_tally : NamedLines → List (Observed × ℕ) → Report
  -- how many of so many schedules break the condition, and the first of them
  pub of_losses : ℕ → Losses → Report
  -- how many of so many schedules come to an end, and how many of these break the condition there
  pub of_ends : ℕ → EndCounts → Report
  -- what a hunt found; or that it found nothing, and where ends are asked how many schedules come to one
  pub of_hunt : HuntOptions → HuntStart → Option Found → Option ℕ → Report
