use Rattle.schedule.proofs.WrittenSteps.{written_is_read, written_is_single}
use Rattle.schedule.proofs.laws.written_steps_are_read.Goals as goal

pub returns-clause-read : goal.returns-clause-read
returns-clause-read c = written_is_read

pub returns-clause-single : goal.returns-clause-single
returns-clause-single c = written_is_single
