use Rattle.schedule.proofs.SchedulesEnd.{schedule_runs, schedule_chooses}
use Rattle.schedule.proofs.laws.schedules_are_runs.Goals as goal

pub returns-clause-run : goal.returns-clause-run
returns-clause-run c = schedule_runs

pub returns-clause-chosen : goal.returns-clause-chosen
returns-clause-chosen c = schedule_chooses
