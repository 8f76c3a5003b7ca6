-- The commands that work with threads read steps; and what a hunt or a live machine may lack is of its stages.
use Rattle.std.proofs.Common.{◌≡◌, ℕ, true, Result, Err, arith, refl}
use Rattle.outcomes.specs.declared.or_no_memory.OrNoMemory.{OrNoMemory}
use Rattle.outcomes.specs.declared.or_no_memory.OrNoMemory.TheVariants as errors
use Rattle.commands.specs.declared.fault.Fault.{Fault}
use Rattle.commands.specs.declared.jobs.ScheduleJob.{ScheduleJob}
use Rattle.commands.specs.Serving.{Report}
use Rattle.commands.specs.Works.{Makes, MakesOneOf}
use Rattle.hunt.specs.declared.fault.NoThread.{NoThread}
use Rattle.thread_jobs.specs.declared.fault.LiveEnd.{LiveEnd}
use Rattle.thread_jobs.specs.declared.fault.LiveEnd.TheVariants as ends
use Rattle.thread_jobs.specs.JournalForms.{JournalForm}
use Rattle.thread_jobs.specs.ReportForms.{ReportForm}
use Rattle.thread_jobs.specs.ThreadReports.{hunt_fault, live_command, live_fault, live_stages, threads_work, work_command}

pub work_reads : (form : ReportForm) (job : ScheduleJob) → true ≡ (work_command form job).reads_steps
unfolding work_command
work_reads form job = refl

pub live_reads : (form : JournalForm) (threads : ℕ) → true ≡ (live_command form threads).reads_steps
unfolding live_command
live_reads form threads = refl

pub live_lacks : (May : Result Report Fault → Type 0) (end : OrNoMemory LiveEnd) → MakesOneOf May live_stages (Err (live_fault end))
unfolding MakesOneOf
live_lacks May (errors.Fault ends.NoThread) = (1, omega arith, refl)
live_lacks May (errors.Fault (ends.Stranger number)) = (2, omega arith, refl)
live_lacks May errors.NoMemory = (2, omega arith, refl)

pub hunt_lacks : (report : Report) (fault : OrNoMemory NoThread) → Makes (threads_work report) (Err (hunt_fault fault))
unfolding Makes
hunt_lacks report (errors.Fault none) = (1, omega arith, refl)
hunt_lacks report errors.NoMemory = (0, omega arith, refl)
