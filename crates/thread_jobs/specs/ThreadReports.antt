-- The reports of the commands that work with threads, and what these commands may answer.
use Rattle.std.specs.Prelude.{◌≡◌, ℕ, Bool, true, false, Option, Some, None, option_map, Result, Ok, Err, List, [], ◌∷◌}
use Rattle.outcomes.specs.declared.or_no_memory.OrNoMemory.{OrNoMemory}
use Rattle.outcomes.specs.declared.or_no_memory.OrNoMemory.TheVariants as errors
use Rattle.workers.specs.Limits.{MayShare}
use Rattle.lines_layout.specs.Layouts.{NamedLines}
use Rattle.litmus_text.specs.declared.text_lines.LinedObject.{LinedObject}
use Rattle.machine.specs.Objects.{opening}
use Rattle.machine.specs.State.{State}
use Rattle.machine.specs.Steps.{run_of}
use Rattle.machine.specs.declared.step.Step.{Step}
use Rattle.hunt.specs.Tallies as tallies
use Rattle.hunt.specs.declared.fault.NoThread.{NoThread}
use Rattle.hunt.specs.Least.{fails, least_from}
use Rattle.hunt.specs.Crashes.{least_loss, losses_among}
use Rattle.hunt.specs.Ends.{breaks_end, ends_among}
use Rattle.hunt.specs.declared.end_counts.EndCounts.{EndCounts}
use Rattle.thread_jobs.specs.declared.found.Found.{Found}
use Rattle.thread_jobs.specs.Founds.{found_crash, found_end}
use Rattle.thread_jobs.specs.declared.fault.LiveEnd.{LiveEnd}
use Rattle.thread_jobs.specs.declared.fault.LiveEnd.TheVariants as ends
use Rattle.thread_jobs.specs.HuntStarts.{HuntStart, range_work, start_work}
use Rattle.thread_jobs.specs.JournalForms.{IsLiveReport, JournalForm}
use Rattle.thread_jobs.specs.ReportForms.{ReportForm}
use Rattle.commands.specs.declared.fault.Fault.{Fault}
use Rattle.commands.specs.declared.fault.Fault.TheVariants as faults
use Rattle.commands.specs.declared.fault.Missing.TheVariants as wants
use Rattle.commands.specs.declared.fault.Stage.{Stage}
use Rattle.commands.specs.declared.fault.Stage.TheVariants as stages
use Rattle.commands.specs.declared.jobs.ScheduleJob.{ScheduleJob}
use Rattle.commands.specs.declared.jobs.ScheduleJob.TheVariants as jobs
use Rattle.commands.specs.declared.jobs.TallyOptions.{TallyOptions}
use Rattle.commands.specs.declared.jobs.Demand.{Demand}
use Rattle.commands.specs.declared.jobs.Demand.TheVariants.{Cond, Ends, Recovered, All}
use Rattle.commands.specs.declared.jobs.HuntOptions.{HuntOptions}
use Rattle.commands.specs.declared.jobs.EndsOptions.{EndsOptions}
use Rattle.commands.specs.declared.jobs.LossesOptions.{LossesOptions}
use Rattle.commands.specs.Faults.{missing}
use Rattle.commands.specs.Programs.{lined_work, list_work, program_work, state_work}
use Rattle.commands.specs.Serving.{Command, Report, Sources}
use Rattle.commands.specs.Works.{◌>>=◌, Makes, MakesOneOf, MakesThen, Work, done, work}

-- how the schedules end that are run from a state, and how often each way
abbrev pub tally_from : ReportForm → NamedLines → TallyOptions → State → Report
tally_from form layout options start = form.of_tally layout (tallies.tally_from options.plan start options.first options.runs)

-- tally: the steps are made, and the schedules are run from where they lead
abbrev pub tally_work : ReportForm → TallyOptions → List ℕ → List ℕ → Work Report
tally_work form options program steps = do
  object ← program_work program
  range ← range_work options
  list ← list_work steps
  state ← state_work (run_of list (opening object))
  work stages.Schedules (Ok (tally_from form object.layout options state))

-- the text of the condition
abbrev pub text_of : Demand → List ℕ
text_of (Cond text) = text.now
text_of (Ends text) = text.now
text_of (Recovered text) = text.now
text_of (All text) = text.now

-- the smallest number of the range whose schedule comes to an end, after a crash or before the first one, where the condition does
-- not hold
abbrev pub end_found : Bool → HuntStart → Option Found
end_found recovered start =
    option_map (found_end start.schedules.plan) (least_from (breaks_end recovered start.schedules.plan start.condition start.state) start.schedules.first start.schedules.runs)

-- the smallest number of the range whose schedule ends, from a state, where the condition does not hold, or comes to an end where
-- it does not; or the smallest, and in it the least turn, after which a crash may leave what breaks the condition
abbrev pub found_by : Demand → HuntStart → Option Found
found_by (Cond text) start =
    option_map (found_end start.schedules.plan) (least_from (fails start.schedules.plan start.condition start.state) start.schedules.first start.schedules.runs)
found_by (Ends text) start = end_found false start
found_by (Recovered text) start = end_found true start
found_by (All text) start = option_map found_crash (least_loss start.schedules.plan start.condition start.state start.schedules.first start.schedules.runs)

-- how many of the schedules come to an end, after a crash or before the first one, and how many of these break the condition there
abbrev pub counts_of : Bool → HuntStart → EndCounts
counts_of recovered start = ends_among recovered start.schedules.plan start.condition start.state start.schedules.first start.schedules.runs

-- how many come to an end, where ends are asked
abbrev pub ended_of : Demand → HuntStart → Option ℕ
ended_of (Cond text) start = None
ended_of (Ends text) start = Some (counts_of false start).ended
ended_of (Recovered text) start = Some (counts_of true start).ended
ended_of (All text) start = None

-- the same where none of them breaks the condition
abbrev pub ended_by : Demand → HuntStart → Option Found → Option ℕ
ended_by demand start None = ended_of demand start
ended_by demand start (Some found) = None

-- what is reported of what a hunt found; where ends are asked and it found nothing, also of how many schedules come to one
abbrev pub hunt_from : ReportForm → HuntOptions → HuntStart → Report
hunt_from form options start =
    let found = found_by options.demand start in
    form.of_hunt options start found (ended_by options.demand start found)

-- what schedules come to that threads run
abbrev pub threads_work : Report → Work Report
threads_work report = record { told = Ok report; reached = stages.Schedules ∷ stages.Threads ∷ [] }

-- hunt
abbrev pub hunt_work : ReportForm → HuntOptions → List ℕ → List ℕ → Work Report
hunt_work form options program steps = do
  start ← start_work (text_of options.demand) options.schedules program steps
  threads_work (hunt_from form options start)

-- how many schedules break the condition by what a crash may leave
abbrev pub losses_from : ReportForm → HuntStart → Report
losses_from form start =
    form.of_losses start.schedules.runs (losses_among start.schedules.plan start.condition start.state start.schedules.first start.schedules.runs)

-- tally --all
abbrev pub losses_work : ReportForm → LossesOptions → List ℕ → List ℕ → Work Report
losses_work form options program steps = do
  start ← start_work options.all.now options.schedules program steps
  work stages.Schedules (Ok (losses_from form start))

-- how many schedules come to an end, and how many of these break a condition there
abbrev pub ends_from : ReportForm → Bool → HuntStart → Report
ends_from form recovered start =
    form.of_ends start.schedules.runs (ends_among recovered start.schedules.plan start.condition start.state start.schedules.first start.schedules.runs)

-- tally --ends, tally --recovered
abbrev pub ends_work : ReportForm → EndsOptions → List ℕ → List ℕ → Work Report
ends_work form options program steps = do
  start ← start_work options.cond.now options.schedules program steps
  work stages.Schedules (Ok (ends_from form options.recovered start))

-- the program of a live machine with the lines of its text, and the steps
abbrev pub live_start : List ℕ → List ℕ → Work (LinedObject × List Step)
live_start program steps = do
  lined ← lined_work program
  list ← list_work steps
  done (lined, list)

-- What live may make of a program and steps: a report of some journal of the steps, which the threads made from the opening
-- state of the program. Nothing is refused.
abbrev pub IsLiveAnswer : JournalForm → ℕ → LinedObject × List Step → Result Report Fault → Type 0
IsLiveAnswer form threads start (Ok report) = IsLiveReport form start.0 (opening start.0.object) threads start.1 report
IsLiveAnswer form threads start (Err fault) = ⊥

-- where something may be missing while threads make the steps
abbrev pub live_stages : List Stage
live_stages = stages.Machine ∷ stages.Threads ∷ stages.Journal ∷ []

-- a hunt has so many workers
abbrev pub MayWork : ScheduleJob → Type 0
MayWork (jobs.Tally options) = Unit {0}
MayWork (jobs.Losses options) = Unit {0}
MayWork (jobs.Ends options) = Unit {0}
MayWork (jobs.Hunt options) = MayShare options.workers

-- what is made of the bytes of both sources
abbrev pub work_of : ReportForm → ScheduleJob → Sources → Work Report
work_of form (jobs.Tally options) both = tally_work form options both.program both.steps
work_of form (jobs.Losses options) both = losses_work form options both.program both.steps
work_of form (jobs.Ends options) both = ends_work form options both.program both.steps
work_of form (jobs.Hunt options) both = hunt_work form options both.program both.steps

-- a command that runs schedules, on the bytes of its sources, with its report in this form
unfoldable pub work_command : ReportForm → ScheduleJob → Command
work_command form job = record { reads_steps = true; May = λ both made. Makes (work_of form job both) made }

-- `live`, with so many threads and with its report in this form
unfoldable pub live_command : JournalForm → ℕ → Command
live_command form threads = record {
  reads_steps = true;
  May = λ both made. MakesThen (live_start both.program both.steps) (λ start. MakesOneOf (IsLiveAnswer form threads start) live_stages) made;
}

-- why a live machine gives no report
abbrev pub live_fault : OrNoMemory LiveEnd → Fault
live_fault (errors.Fault ends.NoThread) = missing stages.Threads
live_fault (errors.Fault (ends.Stranger number)) = faults.Missing (wants.Receipt number)
live_fault errors.NoMemory = missing stages.Journal

-- why a hunt gives no answer
abbrev pub hunt_fault : OrNoMemory NoThread → Fault
hunt_fault (errors.Fault none) = missing stages.Threads
hunt_fault errors.NoMemory = missing stages.Schedules
