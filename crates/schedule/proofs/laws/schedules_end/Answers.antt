use Rattle.schedule.proofs.SchedulesEnd.{schedule_fewer, schedule_ended}
use Rattle.schedule.proofs.laws.schedules_end.Goals as goal

pub returns-clause-most : goal.returns-clause-most
returns-clause-most c = schedule_fewer

pub returns-clause-sooner : goal.returns-clause-sooner
returns-clause-sooner c = schedule_ended
