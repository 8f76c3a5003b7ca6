use Rattle.debugger.proofs.CheckpointsRise.{no_marks, marks_gone, marks_back, last_greatest}
use Rattle.debugger.proofs.laws.checkpoints_rise.Goals as goal

pub returns-clause-opened : goal.returns-clause-opened
returns-clause-opened c = no_marks

pub returns-clause-gone : goal.returns-clause-gone
returns-clause-gone c = marks_gone

pub returns-clause-back : goal.returns-clause-back
returns-clause-back c = marks_back

pub returns-clause-greatest : goal.returns-clause-greatest
returns-clause-greatest c = last_greatest
