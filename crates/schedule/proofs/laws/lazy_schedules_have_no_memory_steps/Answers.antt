use Rattle.schedule.proofs.SchedulesEnd.{lazy_schedule}
use Rattle.schedule.proofs.laws.lazy_schedules_have_no_memory_steps.Goals as goal

pub returns : goal.returns
returns c = lazy_schedule
