use Rattle.schedule.proofs.SchedulesEnd.{schedule_sibling}
use Rattle.schedule.proofs.laws.schedules_keep_programs.Goals as goal

pub returns : goal.returns
returns c = schedule_sibling
