-- The reports as text.
use Rattle.std.specs.Prelude.{ℕ, List}
use Rattle.lines_layout.specs.Layouts.{NamedLines}
use Rattle.hunt.specs.Outcomes.{Observed}
use Rattle.hunt.specs.declared.end_counts.EndCounts.{EndCounts}
use Rattle.hunt.specs.declared.losses.Losses.{Losses}
use Rattle.commands.specs.declared.status.Status.TheVariants.{Done}
use Rattle.commands.specs.Serving.{Report}
use Rattle.thread_jobs.specs.HuntReports.{ends_text, found_report, losses_text}
use Rattle.thread_jobs.specs.JournalForms.{JournalForm}
use Rattle.thread_jobs.specs.LiveTexts.{live_report}
use Rattle.thread_jobs.specs.ReportForms.{ReportForm}
use Rattle.thread_jobs.specs.TallyReports.{tally_text}

-- a line for each outcome
abbrev pub tally_report : NamedLines → List (Observed × ℕ) → Report
tally_report layout tally = record { text = tally_text layout tally; status = Done }

-- how many schedules break the condition, and the first of them
abbrev pub losses_report : ℕ → Losses → Report
losses_report runs losses = record { text = losses_text runs losses; status = Done }

-- how many schedules come to an end, and how many of these break the condition there
abbrev pub ends_report : ℕ → EndCounts → Report
ends_report runs counts = record { text = ends_text runs counts; status = Done }

-- those of schedules
abbrev pub text_reports : ReportForm
text_reports = record {
  of_tally = tally_report;
  of_losses = losses_report;
  of_ends = ends_report;
  of_hunt = found_report;
}

-- that of `live`
abbrev pub text_journals : JournalForm
text_journals = live_report
